-- Of two rings one comes first, or they are the same. Assumes nothing.
use Rattle.std.proofs.Common.{◌≡◌, ℕ, ◌⊎◌, List, [], ◌∷◌, length, sym, refl, inl, inr, ⊎_elim, arith}
use Rattle.std.proofs.lemmas.Bool.{cases_order}
use Rattle.model.specs.Cycles.{Smaller, Earlier, OneFirst}

smaller_cases : (xs ys : List ℕ) → length xs ≡ length ys → (xs ≡ ys) ⊎ (Smaller xs ys ⊎ Smaller ys xs)
smaller_cases [] [] e = inl refl
smaller_cases [] (y ∷ ys) e = let z : ⊥ = omega arith in elim z [ ]
smaller_cases (x ∷ xs) [] e = let z : ⊥ = omega arith in elim z [ ]
smaller_cases (x ∷ xs) (y ∷ ys) e =
    ⊎_elim
    (λ is.
    ⊎_elim
    (λ same. inl (cc))
    (λ o. ⊎_elim (λ s. inr (inl (inr (is, s)))) (λ s. inr (inr (inr (sym is, s)))) o)
    (smaller_cases xs ys (omega arith)))
    (λ o. ⊎_elim (λ lt. inr (inl (inl lt))) (λ lt. inr (inr (inl lt))) o)
    (cases_order x y)

earlier_cases : (x : ℕ) (xs : List ℕ) (y : ℕ) (ys : List ℕ) → (x ∷ xs ≡ y ∷ ys) ⊎ (Earlier (x ∷ xs) (y ∷ ys) ⊎ Earlier (y ∷ ys) (x ∷ xs))
earlier_cases x xs y ys =
    ⊎_elim
    (λ is.
    ⊎_elim
    (λ long.
    ⊎_elim
    (λ same. inl (cc))
    (λ o. ⊎_elim (λ s. inr (inl (inr (is, inr (long, s))))) (λ s. inr (inr (inr (sym is, inr (sym long, s))))) o)
    (smaller_cases xs ys long))
    (λ o. ⊎_elim (λ lt. inr (inl (inr (is, inl lt)))) (λ lt. inr (inr (inr (sym is, inl lt)))) o)
    (cases_order (length xs) (length ys)))
    (λ o. ⊎_elim (λ lt. inr (inl (inl lt))) (λ lt. inr (inr (inl lt))) o)
    (cases_order x y)

pub one_first : OneFirst
one_first rel [] b f g = let z : ⊥ = f.cycle in elim z [ ]
one_first rel (x ∷ xs) [] f g = let z : ⊥ = g.cycle in elim z [ ]
one_first rel (x ∷ xs) (y ∷ ys) f g =
    ⊎_elim
    (λ same. same)
    (λ o.
    let z : ⊥ = ⊎_elim (λ e. g.first (x ∷ xs) f.cycle f.from_lowest e) (λ e. f.first (y ∷ ys) g.cycle g.from_lowest e) o in
    elim z [ ])
    (earlier_cases x xs y ys)
