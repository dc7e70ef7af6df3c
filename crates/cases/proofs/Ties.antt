-- Ties whose ends are two networks, and customers that stand lower than their providers, are sound. Assumes nothing.
use Rattle.std.proofs.Common.{◌≡◌, ℕ, ◌<◌, ◌≤◌, Bool, true, not, ◌&&◌, cond, eqb, List, [], ◌∷◌, nat_lt, sym, refl, subst, arith}
use Rattle.std.proofs.lemmas.Bool.{and_parts, cond_both, eqb-true}
use Rattle.std.proofs.lemmas.Bool.Decides.{nat_tests}
use Rattle.model.specs.Relations.{Between, Apart, Mutual, Within, opposite}
use Rattle.model.specs.Cycles.{Chain, Cycle}
use Rattle.model.specs.declared.relation.Relation.{Relation}
use Rattle.model.specs.declared.relation.Relation.TheVariants.{Unrelated, Customer, Peer, Provider}
use Rattle.model.proofs.Chains.{not_provider}
use Rattle.model.proofs.Chosen.{strict}
use Rattle.model.specs.World.{Sound}
use Rattle.cases.specs.Settings.{Setting, Tie, customer_of, peers, tied, world}

-- j is x to i, and i the opposite to j, by a tie of a and b; other networks are what they are without it
abbrev with_tie : Between → ℕ → ℕ → Relation → Between
with_tie rel a b x i j = cond (eqb i a && eqb j b) x (cond (eqb i b && eqb j a) (opposite x) (rel i j))

-- case by case
pub tie_cases : (P : Relation → Type 0) (rel : Between) (a b : ℕ) (x : Relation) (i j : ℕ) → (i ≡ a → j ≡ b → P x) → (i ≡ b → j ≡ a → P (opposite x)) → P (rel i j) → P (with_tie rel a b x i j)
tie_cases P rel a b x i j here back there =
    cond_both (eqb i a && eqb j b) x _ P
    (λ e. let p = and_parts (eqb i a) (eqb j b) e in here (eqb-true i a p.0) (eqb-true j b p.1))
    (λ _. cond_both (eqb i b && eqb j a) (opposite x) (rel i j) P (λ e. let p = and_parts (eqb i b) (eqb j a) e in back (eqb-true i b p.0) (eqb-true j a p.1)) (λ _. there))

tie_mutual : (rel : Between) (a b : ℕ) (x : Relation) → opposite (opposite x) ≡ x → (a ≡ b → ⊥) → Mutual rel → Mutual (with_tie rel a b x)
tie_mutual rel a b x o ne m i j = let e = m i j in grind (arith, nat_tests)

tie_apart : (rel : Between) (a b : ℕ) (x : Relation) → (a ≡ b → ⊥) → Apart rel → Apart (with_tie rel a b x)
tie_apart rel a b x ne m i = let e = m i in grind (arith, nat_tests)

-- the ends of each tie are two of n networks
abbrev pub fit : ℕ → List Tie → Bool
fit n [] = true
fit n (customer_of i j ∷ ties) = (nat_lt i n && (nat_lt j n && not (eqb i j))) && fit n ties
fit n (peers i j ∷ ties) = (nat_lt i n && (nat_lt j n && not (eqb i j))) && fit n ties

differ : (n i j : ℕ) (t : Bool) → ((nat_lt i n && (nat_lt j n && not (eqb i j))) && t) ≡ true → (i < n) × (j < n) × (i ≡ j → ⊥) × (t ≡ true)
differ n i j t e = (grind (arith, nat_tests, e), grind (arith, nat_tests, e), λ same. grind (arith, nat_tests, e, same), grind (arith, nat_tests, e))

pub both_ends : (n : ℕ) (ties : List Tie) → fit n ties ≡ true → Mutual (tied ties)
both_ends n [] e = λ i j. refl
both_ends n (customer_of a b ∷ ties) e = let d = differ n a b (fit n ties) e in tie_mutual (tied ties) a b Provider refl d.2 (both_ends n ties d.3)
both_ends n (peers a b ∷ ties) e = let d = differ n a b (fit n ties) e in tie_mutual (tied ties) a b Peer refl d.2 (both_ends n ties d.3)

pub apart : (n : ℕ) (ties : List Tie) → fit n ties ≡ true → Apart (tied ties)
apart n [] e = λ i. refl
apart n (customer_of a b ∷ ties) e = let d = differ n a b (fit n ties) e in tie_apart (tied ties) a b Provider d.2 (apart n ties d.3)
apart n (peers a b ∷ ties) e = let d = differ n a b (fit n ties) e in tie_apart (tied ties) a b Peer d.2 (apart n ties d.3)

pub within : (n : ℕ) (ties : List Tie) → fit n ties ≡ true → Within n (tied ties)
within n [] e = λ i j h. refl
within n (customer_of a b ∷ ties) e =
    let d = differ n a b (fit n ties) e in
    λ i j h. tie_cases (λ r. r ≡ Unrelated) (tied ties) a b Provider i j (λ f _. absurd (omega (arith, f, d.0))) (λ f _. absurd (omega (arith, f, d.1))) (within n ties d.3 i j h)
within n (peers a b ∷ ties) e =
    let d = differ n a b (fit n ties) e in
    λ i j h. tie_cases (λ r. r ≡ Unrelated) (tied ties) a b Peer i j (λ f _. absurd (omega (arith, f, d.0))) (λ f _. absurd (omega (arith, f, d.1))) (within n ties d.3 i j h)

-- each customer stands lower than its provider
abbrev pub rising : (ℕ → ℕ) → List Tie → Bool
rising height [] = true
rising height (customer_of i j ∷ ties) = nat_lt (height i) (height j) && rising height ties
rising height (peers i j ∷ ties) = rising height ties

rises : (height : ℕ → ℕ) (ties : List Tie) → rising height ties ≡ true → (i j : ℕ) → tied ties i j ≡ Provider → height i < height j
rises height [] e i j = λ p. absurd (not_provider Unrelated refl p)
rises height (customer_of a b ∷ ties) e i j =
    let up : height a < height b = grind (arith, nat_tests, e) in
    let later : rising height ties ≡ true = grind (arith, nat_tests, e) in
    tie_cases (λ r. r ≡ Provider → height i < height j) (tied ties) a b Provider i j
    (λ f g _. subst (λ k. height k < height j) (sym f) (subst (λ k. height a < height k) (sym g) up))
    (λ f g p. absurd (not_provider Customer refl p))
    (rises height ties later i j)
rises height (peers a b ∷ ties) e i j =
    tie_cases (λ r. r ≡ Provider → height i < height j) (tied ties) a b Peer i j (λ f g p. absurd (not_provider Peer refl p)) (λ f g p. absurd (not_provider Peer refl p)) (rises height ties e i j)

module _ (height : ℕ → ℕ) (rel : Between) (up : (i j : ℕ) → rel i j ≡ Provider → height i < height j) where
  chain_rises : (xs : List ℕ) (i j : ℕ) → Chain rel i xs j → height i < height j
  chain_rises [] i j c = up i j c
  chain_rises (x ∷ xs) i j c = let a = up i x c.0 in let b = chain_rises xs x j c.1 in omega (arith, a, b)

  no_cycle : (ring : List ℕ) → Cycle rel ring → ⊥
  no_cycle [] c = c
  no_cycle (x ∷ xs) c = let a = chain_rises xs x x c in omega (arith, a)

pub sound : (s : Setting) (height : ℕ → ℕ) → s.networks ≤ 64 → fit s.networks s.ties ≡ true → rising height s.ties ≡ true → Sound (world s)
sound s height few e up =
    record {
      few = few;
      both = λ i j hi hj. both_ends s.networks s.ties e i j;
      acyclic = λ ring below. no_cycle height (tied s.ties) (rises height s.ties up) ring;
      ranked = λ i hi. (strict (tied s.ties i)).1;
      strict = λ i hi. (strict (tied s.ties i)).0;
    }
