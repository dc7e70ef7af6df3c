-- The providers below w are met.
use Rattle.std.proofs.Common.{◌≡◌, ◌<◌}
use Rattle.relations.specs.Table.{rel}
use Rattle.cycles.specs.Walk.{Spread}
use Rattle.cycles.proofs.walk.Slope.meet.Given as goal

abbrev pub invariant-loop-w : goal.invariant-loop-w
invariant-loop-w l = Spread (rel l.self.matrix.now) l.self.low l.step (λ v w. (v ≡ l.from) × (w < l.w)) l.initial.steps l.steps l.met
