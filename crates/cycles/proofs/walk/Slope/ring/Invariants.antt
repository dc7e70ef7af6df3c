-- The rest of the way, after what is in the ring, makes the whole.
use Rattle.std.proofs.Common.{[], ◌∷◌, ℕ, List, vec_items}
use Rattle.relations.specs.Table.{rel}
use Rattle.cycles.specs.Trace.{Traced}
use Rattle.cycles.specs.Walk.{Shortest}
use Rattle.cycles.proofs.walk.Slope.ring.Given as goal

abbrev pub invariant-loop-left : goal.invariant-loop-left
invariant-loop-left l =
    record {
      short : Shortest (rel l.self.matrix.now) l.self.low l.left l.at l.self.low;
      on : (new : List ℕ) → Traced (rel l.self.matrix.now) l.self.low l.at l.left (vec_items l.ring) new → Traced (rel l.self.matrix.now) l.self.low l.self.low l.steps (l.self.low ∷ []) new;
    }
