-- Lists that count alike, however their elements are counted, have the same elements. Assumes nothing.
use Rattle.std.proofs.Common.{◌≡◌, ℕ, ◌<◌, Bool, true, cond, List, [], ◌∷◌, ◌++◌, sum_by, ap, ◌∙◌, sym, subst, ⊎_elim, arith}
use Rattle.std.specs.List.Sorted.{IsPermutation}
use Rattle.std.proofs.lemmas.Bool.{cases_Bool, cond-true, cond-false}
use Rattle.std.proofs.lemmas.List.Sorted.{IsPermutation-cons, IsPermutation-middle, IsPermutation-refl, IsPermutation-sym, IsPermutation-trans}
use Rattle.std.proofs.lemmas.List.Sums.{sum_by-append, sum_by-cons}

-- with a test whether two elements are the same
module _ {X : Type 0} (alike : X → X → Bool) (same : (x y : X) → alike x y ≡ true → x ≡ y) (own : (x : X) → alike x x ≡ true) where
  -- one for each that is x
  abbrev ones : X → X → ℕ
  ones x y = cond (alike x y) 1 0

  own_one : (x : X) → ones x x ≡ 1
  own_one x = cond-true {A = ℕ} (alike x x) 1 0 (own x)

  -- what is counted stands somewhere
  stands : (x : X) (ys : List X) → 0 < sum_by (ones x) ys → (front : List X) × (back : List X) × (ys ≡ front ++ x ∷ back)
  stands x [] h = absurd (omega arith)
  stands x (y ∷ ys) h =
      ⊎_elim
      (λ e. ([], ys, ap (λ z. z ∷ ys) (sym (same x y e))))
      (λ ne.
      let c = cond-false {A = ℕ} (alike x y) 1 0 ne in
      let a = sum_by-cons (ones x) y ys in
      let r = stands x ys (omega (arith, h, c, a)) in
      (y ∷ r.0, r.1, ap (λ zs. y ∷ zs) r.2))
      (cases_Bool (alike x y))

  pub reordered : (xs ys : List X) → ((f : X → ℕ) → sum_by f xs ≡ sum_by f ys) → IsPermutation xs ys
  reordered [] [] h = IsPermutation-refl []
  reordered [] (y ∷ ys) h = absurd (let z = h (λ _. 1) in let a = sum_by-cons (λ (x : X). 1) y ys in omega (arith, z, a))
  reordered (x ∷ xs) ys h =
      let one = own_one x in
      let all = h (ones x) in
      let parts = sum_by-cons (ones x) x xs in
      let t = stands x ys (omega (arith, one, all, parts)) in
      let rest : (f : X → ℕ) → sum_by f xs ≡ sum_by f (t.0 ++ t.1) = λ f.
      let a = sum_by-cons f x xs in
      let b = h f ∙ ap (sum_by f) t.2 in
      let c = sum_by-append f t.0 (x ∷ t.1) in
      let d = sum_by-cons f x t.1 in
      let e = sum_by-append f t.0 t.1 in
      omega (arith, a, b, c, d, e) in
      subst (IsPermutation (x ∷ xs)) (sym t.2)
      (IsPermutation-trans (x ∷ xs) (x ∷ (t.0 ++ t.1)) (t.0 ++ x ∷ t.1) (IsPermutation-cons x xs (t.0 ++ t.1) (reordered xs (t.0 ++ t.1) rest))
      (IsPermutation-sym (t.0 ++ x ∷ t.1) (x ∷ (t.0 ++ t.1)) (IsPermutation-middle t.0 x t.1)))

  pub single : (x : X) (ys : List X) → ((f : X → ℕ) → sum_by f ys ≡ f x) → ys ≡ x ∷ []
  single x [] h = absurd (let z = h (λ _. 1) in omega (arith, z))
  single x (y ∷ []) h =
      ⊎_elim
      (λ e. ap (λ z. z ∷ []) (sym (same x y e)))
      (λ ne. absurd (let c = cond-false {A = ℕ} (alike x y) 1 0 ne in let one = own_one x in let z = h (ones x) in omega (arith, c, one, z)))
      (cases_Bool (alike x y))
  single x (y ∷ z ∷ ys) h =
      let one : X → ℕ = λ _. 1 in
      let c = h one in let a = sum_by-cons one y (z ∷ ys) in let b = sum_by-cons one z ys in absurd (omega (arith, c, a, b))
