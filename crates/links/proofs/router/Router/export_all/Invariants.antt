use Rattle.std.proofs.Common.{◌≡◌}
use Rattle.model.specs.Local.{retold}
use Rattle.links.specs.Answers.{ToldAll}
use Rattle.links.specs.Held.{audiences_of, blocks_of, held, number_of, world_for}
use Rattle.links.proofs.Turning.{before}
use Rattle.links.proofs.router.Router.export_all.Given as goal

abbrev pub invariant-loop-block : goal.invariant-loop-block
invariant-loop-block l =
    (blocks_of l.tables ≡ blocks_of l.initial.tables) ×
    (held l.self l.tables ≡ retold (world_for l.world l.initial.tables) (number_of l.self) (before l.block) (held l.self l.initial.tables)) ×
    ToldAll (world_for l.world l.initial.tables) (number_of l.self) (held l.self l.initial.tables) (audiences_of l.tables) l.block
