-- Sums over the numbers below one. Assumes nothing.
use Rattle.std.proofs.Common.{◌≡◌, ℕ, zero, suc, ◌+◌, ◌*◌, ◌<◌, ◌≤◌, Bool, true, false, cond, ◌&&◌, eqb, ltb, sym, refl, ◌∙◌, arith}
use Rattle.std.proofs.lemmas.Bool.{cond-true, lt-ltb}
use Rattle.std.proofs.lemmas.Bool.Decides.{nat_tests}
use Rattle.model.specs.Measure.{sum}

pub sum_same : (n : ℕ) (f g : ℕ → ℕ) → ((i : ℕ) → i < n → f i ≡ g i) → sum n f ≡ sum n g
sum_same zero f g h = refl
sum_same (suc n) f g h = λ x. sum_same n f g (λ i l. h i (omega arith)) x + h n (omega arith) x

pub sum_add : (n : ℕ) (f g : ℕ → ℕ) → sum n (λ i. f i + g i) ≡ sum n f + sum n g
sum_add zero f g = omega arith
sum_add (suc n) f g = omega (arith, sum_add n f g)

pub sum_le : (n : ℕ) (f : ℕ → ℕ) (m : ℕ) → ((i : ℕ) → i < n → f i ≤ m) → sum n f ≤ n * m
sum_le zero f m h = omega arith
sum_le (suc n) f m h = omega (arith, sum_le n f m (λ i l. h i (omega arith)), h n (omega arith))

-- one part
pub sum_one : (n j x : ℕ) → sum n (λ i. cond (eqb i j) x 0) ≡ cond (ltb j n) x 0
sum_one zero j x = grind (arith, nat_tests)
sum_one (suc n) j x = let h = sum_one n j x in grind (arith, nat_tests, h)

pub sum_at : (n j x : ℕ) → j < n → sum n (λ i. cond (eqb i j) x 0) ≡ x
sum_at n j x h = sum_one n j x ∙ cond-true (ltb j n) x 0 (lt-ltb j n h)

pub sum_none : (n : ℕ) → sum n (λ _. 0) ≡ 0
sum_none zero = refl
sum_none (suc n) = omega (arith, sum_none n)

-- one row, and one place, of a table
row : (n : ℕ) (t : Bool) (g : ℕ → ℕ) → sum n (λ k. cond t (g k) 0) ≡ cond t (sum n g) 0
row n true g = refl
row n false g = sum_none n

pub sum_row : (n j : ℕ) (g : ℕ → ℕ) → j < n → sum n (λ i. sum n (λ k. cond (eqb i j) (g k) 0)) ≡ sum n g
sum_row n j g h = sum_same n _ _ (λ i _. row n (eqb i j) g) ∙ sum_at n j (sum n g) h

pub sum_place : (n i j x : ℕ) → i < n → j < n → sum n (λ a. sum n (λ k. cond (eqb a i && eqb k j) x 0)) ≡ x
sum_place n i j x hi hj = sum_same n _ _ (λ a _. at_row (eqb a i)) ∙ sum_at n i x hi
  where
    at_row : (t : Bool) → sum n (λ k. cond (t && eqb k j) x 0) ≡ cond t x 0
    at_row true = sum_at n j x hj
    at_row false = sum_none n

-- tables that differ by a place less and a row more
pub sum_table : (n : ℕ) (f g less more : ℕ → ℕ → ℕ) → ((i k : ℕ) → f i k + less i k ≡ g i k + more i k) → sum n (λ i. sum n (f i)) + sum n (λ i. sum n (less i)) ≡ sum n (λ i. sum n (g i)) + sum n (λ i. sum n (more i))
sum_table n f g less more h =
    sym (sum_add n (λ i. sum n (f i)) (λ i. sum n (less i))) ∙
    sum_same n _ _ (λ i _. sym (sum_add n (f i) (less i)) ∙ sum_same n _ _ (λ k _. h i k) ∙ sum_add n (g i) (more i)) ∙
    sum_add n (λ i. sum n (g i)) (λ i. sum n (more i))
