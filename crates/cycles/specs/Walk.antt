-- Walks up from a network, from customer to provider, and what a search by levels has met. Assumes nothing.
use Rattle.std.specs.Prelude.{◌≡◌, ℕ, zero, suc, ◌+◌, ◌<◌, ◌≤◌, Bool, false, cond, Option, None, Some, List, length, count_by, nat_eq, slice_index}
use Rattle.std.specs.List.{AllByRecursion}
use Rattle.model.specs.Relations.{Between}
use Rattle.model.specs.Cycles.{Chain}
use Rattle.model.specs.declared.relation.Relation.TheVariants.{Provider}

-- a walk of k steps up from one network to another, on which each network after the first is `low` or above
pub record Climb (rel : Between) (low k from to : ℕ) : Type 0 where
  pub over : List ℕ
  pub chain : Chain rel from over to
  pub above : AllByRecursion (λ y. low ≤ y) over
  pub ends : low ≤ to
  pub long : length over + 1 ≡ k

-- k is the least number of steps from one network up to another
pub record Shortest (rel : Between) (low k from to : ℕ) : Type 0 where
  pub walk : Climb rel low k from to
  pub least : (m : ℕ) → Climb rel low m from to → k ≤ m

-- `o` is the least number of steps from one network up to another, or none where no walk leads there
pub record Fewest (rel : Between) (low : ℕ) (o : Option ℕ) (from to : ℕ) : Type 0 where
  pub some : (k : ℕ) → o ≡ Some k → Shortest rel low k from to
  pub none : o ≡ None → (m : ℕ) → Climb rel low m from to → ⊥

-- how many networks are not yet seen
abbrev pub unseen : List ℕ → ℕ
unseen steps = count_by (λ k. nat_eq k 0) steps

-- `step` is written for each network not yet seen that is a provider of a source; v is a source for w where Source v w
pub record Spread
    (rel : Between) (low step : ℕ) (Source : ℕ → ℕ → Type 0) (before after : List ℕ) (met : Bool) : Type 0 where
  pub kept : (w : ℕ) → 0 < slice_index before w → slice_index after w ≡ slice_index before w
  pub added :
      (w : ℕ) → slice_index before w ≡ 0 → 0 < slice_index after w → (v : ℕ) × (slice_index after w ≡ step) ×
      (low ≤ w) × Source v w × (rel v w ≡ Provider)
  pub all : (v w : ℕ) → Source v w → low ≤ w → rel v w ≡ Provider → 0 < slice_index after w
  pub fewer : unseen after + cond met 1 0 ≤ unseen before
  pub same : met ≡ false → after ≡ before

-- each network that at most `level` steps lead to is seen, with the least number of steps
pub record Known (rel : Between) (low level start : ℕ) (steps : List ℕ) : Type 0 where
  pub real :
      (w : ℕ) → 0 < slice_index steps w → Climb rel low (slice_index steps w) start w ×
      (slice_index steps w ≤ level)
  pub least : (m w : ℕ) → m ≤ level → Climb rel low m start w → (0 < slice_index steps w) × (slice_index steps w ≤ m)

-- a number of steps as it is noted: 0 stands for none
abbrev pub noted : ℕ → Option ℕ
noted zero = None
noted (suc k) = Some (suc k)

-- `steps` has for each network the least number of steps up to it, and 0 where no walk leads there
abbrev pub Walked : Between → ℕ → ℕ → List ℕ → Type 0
Walked rel low start steps = (w : ℕ) → Fewest rel low (noted (slice_index steps w)) start w
