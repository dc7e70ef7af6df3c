-- Which cycle of customers is told. Assumes nothing.
use Rattle.std.specs.Prelude.{◌≡◌, ℕ, ◌<◌, ◌≤◌, ◌⊎◌, List, [], ◌∷◌, length}
use Rattle.std.specs.List.{AllByRecursion}
use Rattle.model.specs.Relations.{Between}
pub use Rattle.model.specs.Relations.{Chain, Cycle}

abbrev pub NoCycle : Between → Type 0
NoCycle rel = (ring : List ℕ) → Cycle rel ring → ⊥

-- written from its lowest member
abbrev pub FromLowest : List ℕ → Type 0
FromLowest [] = Unit {0}
FromLowest (x ∷ xs) = AllByRecursion (λ y. x ≤ y) xs

-- the first difference decides
abbrev pub Smaller : List ℕ → List ℕ → Type 0
Smaller [] ys = ⊥
Smaller (x ∷ xs) [] = ⊥
Smaller (x ∷ xs) (y ∷ ys) = (x < y) ⊎ ((x ≡ y) × Smaller xs ys)

-- the smaller lowest member, then the shorter, then the smaller in order
abbrev pub Earlier : List ℕ → List ℕ → Type 0
Earlier [] ys = ⊥
Earlier (x ∷ xs) [] = ⊥
Earlier (x ∷ xs) (y ∷ ys) = (x < y) ⊎ ((x ≡ y) × ((length xs < length ys) ⊎ ((length xs ≡ length ys) × Smaller xs ys)))

-- the cycle that is told: it is one, and none comes before it
pub record First (rel : Between) (ring : List ℕ) : Type 0 where
  pub cycle : Cycle rel ring
  pub from_lowest : FromLowest ring
  pub first : (other : List ℕ) → Cycle rel other → FromLowest other → Earlier other ring → ⊥

-- at most one cycle is the first
abbrev pub OneFirst : Type 0
OneFirst = (rel : Between) (a b : List ℕ) → First rel a → First rel b → a ≡ b
