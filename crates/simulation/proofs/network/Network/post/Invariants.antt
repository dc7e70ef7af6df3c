-- Those with lower numbers were told.
use Rattle.std.proofs.Common.{◌≡◌, ◌++◌, vec_items}
use Rattle.selection.specs.Paths.{row}
use Rattle.selection.specs.Sets.{member}
use Rattle.simulation.specs.Posts.{mailing, posts}
use Rattle.simulation.proofs.network.Network.post.Given as goal

abbrev pub invariant-loop-to : goal.invariant-loop-to
invariant-loop-to l = posts (vec_items l.letters) ≡ posts (vec_items l.initial.letters) ++ mailing l.self.router.number l.block (member l.audience) (row l.self.tables.advertised l.block) l.to
