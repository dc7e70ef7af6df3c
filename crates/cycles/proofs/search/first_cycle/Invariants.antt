-- No cycle has its lowest member below `low`.
use Rattle.std.proofs.Common.{ℕ, ◌<◌}
use Rattle.relations.specs.Table.{rel}
use Rattle.cycles.specs.Walk.{Climb}
use Rattle.cycles.proofs.search.first_cycle.Given as goal

abbrev pub invariant-loop-low : goal.invariant-loop-low
invariant-loop-low l = (u k : ℕ) → u < l.low → Climb (rel l.matrix) u k u u → ⊥
