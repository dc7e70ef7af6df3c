-- A path that repeats nothing has no more networks than there are. Assumes nothing.
use Rattle.std.proofs.Common.{◌≡◌, ℕ, ◌+◌, ◌≤◌, Bool, true, false, cond, ◌||◌, eqb, ltb, List, [], ◌∷◌, length, ap, ◌∙◌, ⊎_elim, arith}
use Rattle.std.proofs.lemmas.Bool.{and_parts, cases_eq, cond_both, ltb-true, or_parts}
use Rattle.std.proofs.lemmas.Bool.Decides.{nat_tests}
use Rattle.model.specs.Paths.{passes, below, repeats}
use Rattle.model.specs.Measure.{sum}
use Rattle.convergence.proofs.Sums.{sum_add, sum_at, sum_le, sum_none, sum_same}

abbrev one : Bool → ℕ
one t = cond t 1 0

-- each network of the path counts once
counted : (n : ℕ) (xs : List ℕ) → below n xs ≡ true → repeats xs ≡ false → sum n (λ v. one (passes v xs)) ≡ length xs
counted n [] b r = sum_none n
counted n (x ∷ xs) b r =
    let p = and_parts (ltb x n) (below n xs) b in
    let q = or_parts (passes x xs) (repeats xs) r in
    let here = sum_at n x 1 (ltb-true x n p.0) in
    let rest = counted n xs p.1 q.1 in
    sum_same n _ _ (λ v _. parts v q.0) ∙ sum_add n (λ v. cond (eqb v x) 1 0) (λ v. one (passes v xs)) ∙ omega (arith, here, rest)
  where
    parts : (v : ℕ) → passes x xs ≡ false → one (eqb x v || passes v xs) ≡ cond (eqb v x) 1 0 + one (passes v xs)
    parts v e = ⊎_elim (λ same. let f : passes v xs ≡ false = ap (λ y. passes y xs) same ∙ e in grind (arith, nat_tests, f)) (λ other. grind (arith, nat_tests)) (cases_eq v x)

pub pigeons : (n : ℕ) (xs : List ℕ) → below n xs ≡ true → repeats xs ≡ false → length xs ≤ n
pigeons n xs b r =
    let c = counted n xs b r in
    let m = sum_le n (λ v. one (passes v xs)) 1 (λ v _. cond_both (passes v xs) 1 0 (λ y. y ≤ 1) (λ _. omega arith) (λ _. omega arith)) in
    omega (arith, c, m)
