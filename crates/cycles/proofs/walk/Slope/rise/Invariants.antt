-- One step on from the networks below v.
use Rattle.std.proofs.Common.{◌≡◌, ◌+◌, ◌<◌, get_or}
use Rattle.relations.specs.Table.{rel}
use Rattle.cycles.specs.Walk.{Spread}
use Rattle.cycles.proofs.walk.Slope.rise.Given as goal

abbrev pub invariant-loop-v : goal.invariant-loop-v
invariant-loop-v l = Spread (rel l.self.matrix.now) l.self.low (l.level + 1) (λ v w. (get_or l.initial.steps v 0 ≡ l.level) × (v < l.v)) l.initial.steps l.steps l.met
