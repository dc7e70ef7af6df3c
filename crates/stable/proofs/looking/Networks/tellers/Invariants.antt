-- Of the networks so far, those that tell are in the set.
use Rattle.std.proofs.Common.{◌≡◌, ℕ, ◌&&◌, nat_lt}
use Rattle.selection.specs.Sets.{member}
use Rattle.stable.specs.Networks.{tells_in}
use Rattle.stable.proofs.looking.Networks.tellers.Given as goal

abbrev pub invariant-loop-from : goal.invariant-loop-from
invariant-loop-from l = (j : ℕ) → member l.tellers j ≡ (nat_lt j l.from && tells_in l.self l.shown l.me j)
