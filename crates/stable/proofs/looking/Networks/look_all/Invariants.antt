-- The networks so far have looked.
use Rattle.std.proofs.Common.{◌≡◌, ℕ, ◌<◌}
use Rattle.stable.specs.Networks.{OfOne, showing, shown_in}
use Rattle.stable.proofs.looking.Networks.look_all.Given as goal

abbrev pub invariant-loop-me : goal.invariant-loop-me
invariant-loop-me l = OfOne l.next × ((j : ℕ) → j < l.me → showing l.next j ≡ shown_in l.self l.shown j)
