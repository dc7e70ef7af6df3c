-- The cycle among the ties of F is the first. Assumes nothing.
use Rattle.std.proofs.Common.{◌≡◌, ℕ, ◌<◌, ◌≤◌, ◌⊎◌, List, [], ◌∷◌, length, refl, ⊎_elim, arith}
use Rattle.model.specs.Cycles.{Cycle as CycleOf, Earlier, First, Smaller}
use Rattle.model.specs.declared.relation.Relation.TheVariants.{Unrelated, Customer, Provider}
use Rattle.model.specs.declared.relation.Relation.{Relation}
use Rattle.model.proofs.Chains.{not_provider}
use Rattle.cases.specs.Settings.{customer_of, tied}
use Rattle.cases.specs.Table.{f}
use Rattle.cases.proofs.Ties.{tie_cases}

-- who is a customer of whom in F
abbrev Next : ℕ → ℕ → Relation → Type 0
Next i j r = r ≡ Provider → (1 ≤ i) × (i ≡ 1 → j ≡ 2) × (i ≡ 2 → j ≡ 3)

next : (i j : ℕ) → Next i j (tied f.ties i j)
next i j =
    tie_cases (Next i j) (tied (customer_of 2 3 ∷ customer_of 3 1 ∷ [])) 1 2 Provider i j
    (λ a b _. (omega (arith, a), λ _. b, λ s. absurd (omega (arith, a, s))))
    (λ _ _ p. absurd (not_provider Customer refl p))
    (tie_cases (Next i j) (tied (customer_of 3 1 ∷ [])) 2 3 Provider i j
    (λ a b _. (omega (arith, a), λ s. absurd (omega (arith, a, s)), λ _. b))
    (λ _ _ p. absurd (not_provider Customer refl p))
    (tie_cases (Next i j) (tied []) 3 1 Provider i j
    (λ a b _. (omega (arith, a), λ s. absurd (omega (arith, a, s)), λ s. absurd (omega (arith, a, s))))
    (λ _ _ p. absurd (not_provider Customer refl p))
    (λ p. absurd (not_provider Unrelated refl p))))

first_of_f : (other : List ℕ) → CycleOf (tied f.ties) other → Earlier other f.cycle → ⊥
first_of_f [] c e = e
first_of_f (x ∷ []) c e = let n = next x x c in ⊎_elim (λ l. omega (arith, l, n.0)) (λ s. omega (arith, s.0, n.1 s.0)) e
first_of_f (x ∷ y ∷ []) c e =
    let n = next x y c.0 in
    let m = next y x c.1 in
    ⊎_elim (λ l. omega (arith, l, n.0)) (λ s. let two : y ≡ 2 = n.1 s.0 in omega (arith, s.0, m.2 two)) e
first_of_f (x ∷ y ∷ z ∷ rest) c e =
    let n = next x y c.0 in
    let m = next y z c.1.0 in
    ⊎_elim (λ l. omega (arith, l, n.0)) (λ s. let two : y ≡ 2 = n.1 s.0 in let three : z ≡ 3 = m.2 two in later y z rest two three s.1) e
  where
    later : (y z : ℕ) (rest : List ℕ) → y ≡ 2 → z ≡ 3 → (length (y ∷ z ∷ rest) < 2) ⊎ ((length (y ∷ z ∷ rest) ≡ 2) × Smaller (y ∷ z ∷ rest) (2 ∷ 3 ∷ [])) → ⊥
    later y z [] two three o =
        ⊎_elim (λ l. omega (arith, l)) (λ s. ⊎_elim (λ l. omega (arith, l, two)) (λ t. ⊎_elim (λ l. omega (arith, l, three)) (λ u. u.1) t.1) s.1) o
    later y z (w ∷ ws) two three o = ⊎_elim (λ l. omega (arith, l)) (λ s. omega (arith, s.0)) o

pub f_is_first : First (tied f.ties) f.cycle
f_is_first =
    record {
      cycle = (refl, (refl, refl));
      from_lowest = (omega arith, (omega arith, tt));
      first = λ other c _ e. first_of_f other c e;
    }
