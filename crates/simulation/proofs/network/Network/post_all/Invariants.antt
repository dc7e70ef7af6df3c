-- The blocks before were told.
use Rattle.std.proofs.Common.{◌≡◌, ◌++◌, length, vec_items}
use Rattle.selection.specs.Paths.{row}
use Rattle.model.specs.Lists.{gather}
use Rattle.advertisement.specs.Telling.{in_audience}
use Rattle.simulation.specs.Posts.{mailing, posts}
use Rattle.simulation.proofs.network.Network.post_all.Given as goal

abbrev pub invariant-loop-block : goal.invariant-loop-block
invariant-loop-block l = posts (vec_items l.letters) ≡ posts (vec_items l.initial.letters) ++ gather (λ b. mailing l.self.router.number b (in_audience (vec_items l.self.tables.audiences) b) (row l.self.tables.advertised b) l.networks) (length l.yielded)
