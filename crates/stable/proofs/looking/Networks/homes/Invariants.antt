-- Of the networks so far, the homes are in the set.
use Rattle.std.proofs.Common.{◌≡◌, ℕ, ◌&&◌, nat_lt}
use Rattle.selection.specs.Sets.{member}
use Rattle.stable.specs.Networks.{is_home_in}
use Rattle.stable.proofs.looking.Networks.homes.Given as goal

abbrev pub invariant-loop-network : goal.invariant-loop-network
invariant-loop-network l = (j : ℕ) → member l.homes j ≡ (nat_lt j l.network && is_home_in l.self j)
