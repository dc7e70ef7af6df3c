-- What was heard so far; less is left in flight each time.
use Rattle.std.proofs.Common.{◌≡◌, ℕ, vec_items}
use Rattle.model.specs.Run.{links}
use Rattle.model.specs.Measure.{left}
use Rattle.simulation.specs.Resting.{HeardAll}
use Rattle.simulation.specs.Simulated.{lookup_of, state_of, world_of}
use Rattle.simulation.proofs.Lessening.{heights}
use Rattle.simulation.proofs.simulation.Simulation.rest.Given as goal

abbrev pub invariant-loop : goal.invariant-loop
invariant-loop l =
    (world_of l.self ≡ world_of l.initial.self) ×
    (l.self.blocks ≡ l.initial.self.blocks) ×
    ((i k : ℕ) → links (state_of l.self) i k ≡ links (state_of l.initial.self) i k) ×
    HeardAll (world_of l.initial.self) (lookup_of l.initial.self) (state_of l.initial.self) (state_of l.self) (vec_items l.initial.endings) (vec_items l.endings)

abbrev pub decreases-loop : goal.decreases-loop
decreases-loop l = left (world_of l.initial.self) (heights l.initial.self).0 (state_of l.self)
