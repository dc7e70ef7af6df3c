-- What is left repeats a network as the whole does.
use Rattle.std.proofs.Common.{◌≡◌, length}
use Rattle.model.specs.Paths.{repeats}
use Rattle.links.proofs.paths.repeats.Given as goal

abbrev pub invariant-loop-first : goal.invariant-loop-first
invariant-loop-first l = repeats l.left ≡ repeats l.path

abbrev pub decreases-loop-first : goal.decreases-loop-first
decreases-loop-first l = length l.left
