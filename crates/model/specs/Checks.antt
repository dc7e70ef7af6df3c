-- Which fault is told: of those that a thing has the one with the lowest number. Assumes nothing.
use Rattle.std.specs.Prelude.{◌≡◌, ℕ, ◌≤◌, ◌⊎◌, Bool, true, ◌&&◌, [], ◌∷◌, Some, None, Option, nat_le}
pub use Rattle.model.specs.FirstFault.{Checks, first_fault}

-- their numbers never fall
abbrev pub ascends_from : {F : Type 0} → (F → ℕ) → ℕ → Checks F → Bool
ascends_from number least [] = true
ascends_from number least (check ∷ later) = nat_le least (number check.0) && ascends_from number (number check.0) later

-- the thing has this fault
abbrev pub Has : {F : Type 0} → Checks F → F → Type 0
Has [] fault = ⊥
Has (check ∷ later) fault = ((check.0 ≡ fault) × (check.1 ≡ true)) ⊎ Has later fault

-- what is told is a fault of the thing, and it has none with a lower number; where nothing is told it has none
pub record IsLowest {F : Type 0} (number : F → ℕ) (checks : Checks F) (told : Option F) : Type 0 where
  pub holds : (f : F) → told ≡ Some f → Has checks f
  pub lowest : (f g : F) → told ≡ Some f → Has checks g → number f ≤ number g
  pub none : told ≡ None → (g : F) → Has checks g → ⊥
