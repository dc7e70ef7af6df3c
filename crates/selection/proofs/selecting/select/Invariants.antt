-- After j networks the best is that among them; so long as the keys that were compared are equal.
use Rattle.std.proofs.Common.{◌≡◌, length}
use Rattle.selection.proofs.Compared.{EqualSoFar}
use Rattle.selection.specs.Meaning.{meaning}
use Rattle.model.specs.Selection.{best, by_keys}
use Rattle.selection.specs.Nodes.{candidate_at, relation_to}
use Rattle.selection.specs.Paths.{row}
use Rattle.selection.proofs.selecting.select.Given as goal

abbrev pub invariant-candidates : goal.invariant-candidates
invariant-candidates l = meaning l.best ≡ best (by_keys (relation_to l.node)) (candidate_at l.node (row l.received) l.block) l.j

abbrev pub invariant-loop-new : goal.invariant-loop-new
invariant-loop-new l = EqualSoFar l.initial.new-iterator (length l.yielded)
