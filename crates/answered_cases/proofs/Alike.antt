-- Two worlds that differ only in their blocks: where a block of one is at home where a block of the other is, both have one stable
-- routing. Assumes nothing.
use Rattle.std.proofs.Common.{◌≡◌, ℕ, zero, suc, ◌+◌, ◌*◌, Bool, refl}
use Rattle.model.specs.Export.{tells}
use Rattle.model.specs.Relations.{Between}
use Rattle.model.specs.Selection.{Order, choose}
use Rattle.model.specs.Stable.{Links, looks, stable}
use Rattle.model.specs.World.{World}

module _ (n : ℕ) (rel : Between) (order : ℕ → Order) (blocks blocks' : ℕ) (homes homes' : ℕ → ℕ → Bool) (links : Links) (b c : ℕ) (same : (i : ℕ) → homes b i ≡ homes' c i) where
  abbrev one : World
  one = record { n = n; rel = rel; order = order; blocks = blocks; is_home = homes }

  abbrev other : World
  other = record { n = n; rel = rel; order = order; blocks = blocks'; is_home = homes' }

  looks_alike : (k i : ℕ) → looks k one links b i ≡ looks k other links c i
  looks_alike zero i = refl
  looks_alike (suc k) i = λ x. choose (order i) (rel i) (links i) i (same i x) (λ j. tells (rel j) (links j) j i (looks_alike k j x)) n

  pub stable_alike : (i : ℕ) → stable one links b i ≡ stable other links c i
  stable_alike i = looks_alike (2 * n + 1) i
