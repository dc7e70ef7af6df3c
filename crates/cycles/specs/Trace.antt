-- The way that a cycle is told by. Assumes nothing.
use Rattle.std.specs.Prelude.{◌≡◌, ℕ, ◌+◌, ◌<◌, ◌≤◌, List, ◌++◌, length}
use Rattle.std.specs.List.{AllByRecursion}
use Rattle.model.specs.Relations.{Between}
use Rattle.model.specs.Cycles.{Chain, Smaller}
use Rattle.cycles.specs.Walk.{Climb, Shortest}
use Rattle.model.specs.declared.relation.Relation.TheVariants.{Provider}

-- `next` is the lowest provider of `at` from which `left` steps lead up to `low`, and no fewer
pub record Next (rel : Between) (low at left next : ℕ) : Type 0 where
  pub up : rel at next ≡ Provider
  pub high : low ≤ next
  pub on : Shortest rel low left next low
  pub lowest : (v : ℕ) → v < next → low ≤ v → rel at v ≡ Provider → Climb rel low left v low → ⊥

-- the way over `way` is one of `left` steps from `at` up to `low`, and no other of that many is smaller in order
pub record Least (rel : Between) (low at left : ℕ) (way : List ℕ) : Type 0 where
  pub chain : Chain rel at way low
  pub above : AllByRecursion (λ y. low ≤ y) way
  pub long : length way + 1 ≡ left
  pub least :
      (other : List ℕ) → Chain rel at other low → AllByRecursion (λ y. low ≤ y) other →
      length other ≡ length way → Smaller other way → ⊥

-- the ring has such a way more at its end
pub record Traced (rel : Between) (low at left : ℕ) (before after : List ℕ) : Type 0 where
  pub way : List ℕ
  pub added : after ≡ before ++ way
  pub least : Least rel low at left way
