-- The networks so far are in the set.
use Rattle.std.proofs.Common.{◌≡◌, ℕ, ◌<◌, true}
use Rattle.selection.specs.Sets.{member}
use Rattle.stable.proofs.looking.Networks.all.Given as goal

abbrev pub invariant-loop-network : goal.invariant-loop-network
invariant-loop-network l = (j : ℕ) → j < l.network → member l.all j ≡ true
