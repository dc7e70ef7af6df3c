-- Two candidates are compared key by key, and the first difference decides. Assumes nothing.
use Rattle.std.proofs.Common.{◌≡◌, ℕ, zero, suc, ◌<◌, ◌≤◌, true, false, List, [], ◌∷◌, ◌++◌, length, get_or, Some, None, Option, Iter, Bor, sym, refl, ap, ◌∙◌, ⊎_elim, arith}
use Rattle.std.proofs.iter.Yields.{fronts}
use Rattle.std.proofs.lemmas.Bool.{cases_lt}
use Rattle.std.proofs.lemmas.Bool.Decides.{nat_tests}
use Rattle.std.proofs.lemmas.Iterator.{zips}
use Rattle.std.proofs.lemmas.List.{length_push}
use Rattle.std.proofs.lemmas.Slice.Zip.{zip_end, zip_turn}
use Rattle.model.specs.Selection.{precedes}
use Rattle.std.specs.Iterator.{Yields}
use Rattle.std.specs.Iterator.Adapters.{zip_first, zip_second}
use Rattle.std.specs.Slice.Iter.{iter_rest}
use Rattle.std.specs.declared.iter.Zip.{Zip}

-- the first k keys are equal
abbrev Equal : ℕ → List ℕ → List ℕ → Type 0
Equal k xs ys = (i : ℕ) → i < k → get_or xs i 0 ≡ get_or ys i 0

-- of those that a loop over both is to go through
abbrev pub EqualSoFar : Zip (Iter ℕ) (Iter ℕ) → ℕ → Type 0
EqualSoFar start k = Equal k (iter_rest (zip_first start)) (iter_rest (zip_second start))

-- the first that differ decide
worse_at : (k : ℕ) (xs ys : List ℕ) → Equal k xs ys → k < length xs → get_or ys k 0 < get_or xs k 0 → precedes xs ys ≡ false
worse_at k [] ys e l h = refl
worse_at k (x ∷ xs) [] e l h = refl
worse_at zero (x ∷ xs) (y ∷ ys) e l h = grind (arith, nat_tests)
worse_at (suc k) (x ∷ xs) (y ∷ ys) e l h =
    let first = e 0 (omega arith) in
    let rest = worse_at k xs ys (λ i m. e (suc i) (omega arith)) (omega arith) h in
    grind (arith, nat_tests, first, rest)

better_at : (k : ℕ) (xs ys : List ℕ) → Equal k xs ys → k < length xs → k < length ys → get_or xs k 0 < get_or ys k 0 → precedes xs ys ≡ true
better_at k [] ys e l m h = absurd (omega arith)
better_at k (x ∷ xs) [] e l m h = absurd (omega arith)
better_at zero (x ∷ xs) (y ∷ ys) e l m h = grind (arith, nat_tests)
better_at (suc k) (x ∷ xs) (y ∷ ys) e l m h =
    let first = e 0 (omega arith) in
    let rest = better_at k xs ys (λ i n. e (suc i) (omega arith)) (omega arith) (omega arith) h in
    grind (arith, nat_tests, first, rest)

-- a loop over the keys of two candidates, after which those that it has seen are equal
module _ {xs ys us vs : List ℕ} (ex : xs ≡ us) (ey : ys ≡ vs) (long : length us ≡ length vs) (start now next : Zip (Iter ℕ) (Iter ℕ)) (first : iter_rest (zip_first start) ≡ xs) (second : iter_rest (zip_second start) ≡ ys) (seen : List (Bor ℕ × Bor ℕ)) (by : Yields (zips fronts fronts) start seen now) (equal : EqualSoFar start (length seen)) (r : Option (Bor ℕ × Bor ℕ)) (step : zips fronts fronts now r next) where
  same : Equal (length seen) xs ys
  same i h = sym (ap (λ l. get_or l i 0) first) ∙ equal i h ∙ ap (λ l. get_or l i 0) second

  module _ {p : Bor ℕ × Bor ℕ} (is : r ≡ Some p) where
    -- the keys that come next
    turn : (length seen < length xs) × (p.0.now ≡ get_or xs (length seen) 0) × (p.1.now ≡ get_or ys (length seen) 0)
    turn = let t = zip_turn xs ys seen start now next r first second by p is step in (omega (arith, ap length ex, ap length ey, long, t.0), t.2 0, t.3 0)

    pub still_equal : p.0.now ≤ p.1.now → p.1.now ≤ p.0.now → EqualSoFar start (length (seen ++ p ∷ []))
    still_equal a b i h =
        let here : get_or xs (length seen) 0 ≡ get_or ys (length seen) 0 = omega (arith, turn.1, turn.2) in
        ⊎_elim
        (λ l. equal i l)
        (λ l. let k : i ≡ length seen = omega (arith, length_push seen p) in (λ x. get_or (first x) (k x) 0) ∙ here ∙ sym (λ x. get_or (second x) (k x) 0))
        (cases_lt i (length seen))

    pub worse : p.1.now < p.0.now → precedes us vs ≡ false
    worse h = (λ i. precedes (sym ex i) (sym ey i)) ∙ worse_at (length seen) xs ys same turn.0 (omega (arith, turn.1, turn.2))

    pub better : p.0.now < p.1.now → precedes us vs ≡ true
    better h = (λ i. precedes (sym ex i) (sym ey i)) ∙ better_at (length seen) xs ys same turn.0 (omega (arith, turn.0, ap length ex, ap length ey, long)) (omega (arith, turn.1, turn.2))

  -- all keys are equal, where none is left
  pub all_equal : r ≡ None → (k : ℕ) → k < length us → get_or us k 0 ≡ get_or vs k 0
  all_equal is k h =
      let n = zip_end xs ys seen start now next r first second by is step in
      sym (ap (λ l. get_or l k 0) ex) ∙ same k (omega (arith, n, ap length ex, ap length ey, long)) ∙ ap (λ l. get_or l k 0) ey
