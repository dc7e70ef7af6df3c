-- Heights where there is no cycle: a network stands as high as it has networks below it. Assumes nothing.
use Rattle.std.proofs.Common.{◌≡◌, ℕ, zero, suc, ◌+◌, ◌<◌, ◌≤◌, Bool, true, false, cond, ◌&&◌, ◌||◌, ◌⊎◌, List, [], ◌∷◌, ◌++◌, sym, refl, ap, ◌∙◌, subst, inl, inr, ⊎_elim, arith}
use Rattle.std.proofs.lemmas.Bool.{cases_Bool, cases_eq, or_cases, or_left, or_right, and_parts, and_from}
use Rattle.model.specs.Relations.{Between, opposite, provider}
use Rattle.model.specs.Cycles.{Chain, NoCycle}
use Rattle.model.specs.Heights.{Heights}
use Rattle.model.specs.declared.relation.Relation.TheVariants.{Provider}
use Rattle.model.proofs.Chains.{among, chain_join, is_provider}

abbrev one : Bool → ℕ
one b = cond b 1 0

-- how many numbers below n pass a test
tally : ℕ → (ℕ → Bool) → ℕ
tally zero p = 0
tally (suc n) p = one (p n) + tally n p

cond_le : (a b : Bool) → (a ≡ true → b ≡ true) → one a ≤ one b
cond_le false b h = omega arith
cond_le true b h = omega (arith, ap one (h refl))

tally_le : (n : ℕ) (p q : ℕ → Bool) → ((k : ℕ) → p k ≡ true → q k ≡ true) → tally n p ≤ tally n q
unfolding tally
tally_le zero p q h = omega arith
tally_le (suc n) p q h = omega (arith, cond_le (p n) (q n) (h n), tally_le n p q h)

tally_lt : (n i : ℕ) (p q : ℕ → Bool) → ((k : ℕ) → p k ≡ true → q k ≡ true) → i < n → p i ≡ false → q i ≡ true → tally n p < tally n q
unfolding tally
tally_lt zero i p q h k e f = let z : ⊥ = omega arith in elim z [ ]
tally_lt (suc n) i p q h k e f =
    ⊎_elim
    (λ is. omega (arith, ap one (ap p (sym is) ∙ e), ap one (ap q (sym is) ∙ f), tally_le n p q h))
    (λ ne. omega (arith, cond_le (p n) (q n) (h n), tally_lt n i p q h (omega arith) e f))
    (cases_eq i n)

tally_all : (n : ℕ) → tally n (λ _. true) ≡ n
unfolding tally
tally_all zero = refl
tally_all (suc n) = omega (arith, tally_all n)

module _ (rel : Between) where
  -- a walk leads from i up to j, over networks below k alone
  reach : ℕ → ℕ → ℕ → Bool
  reach zero i j = provider (rel i j)
  reach (suc k) i j = reach k i j || (reach k i k && reach k k j)

  reach_chain : (k i j : ℕ) → reach k i j ≡ true → (xs : List ℕ) × Chain rel i xs j
  unfolding reach
  reach_chain zero i j e = ([], is_provider (rel i j) e)
  reach_chain (suc k) i j e =
      ⊎_elim
      (λ f. reach_chain k i j f)
      (λ f.
      let g = and_parts (reach k i k) (reach k k j) f in
      let a = reach_chain k i k g.0 in
      let b = reach_chain k k j g.1 in
      (a.0 ++ k ∷ b.0, chain_join rel a.0 b.0 i k j a.1 b.1))
      (or_cases (reach k i j) (reach k i k && reach k k j) e)

  reach_more : (k i j : ℕ) → reach k i j ≡ true → reach (suc k) i j ≡ true
  unfolding reach
  reach_more k i j e = or_left (reach k i j) (reach k i k && reach k k j) e

  reach_over : (k i j : ℕ) → reach k i k ≡ true → reach k k j ≡ true → reach (suc k) i j ≡ true
  unfolding reach
  reach_over k i j e f = or_right (reach k i j) (reach k i k && reach k k j) (and_from (reach k i k) (reach k k j) e f)

  reach_ways : (k i j : ℕ) → reach (suc k) i j ≡ true → (reach k i j ≡ true) ⊎ ((reach k i k ≡ true) × (reach k k j ≡ true))
  unfolding reach
  reach_ways k i j e =
      ⊎_elim (λ f. inl f) (λ f. inr (and_parts (reach k i k) (reach k k j) f)) (or_cases (reach k i j) (reach k i k && reach k k j) e)

  reach_one : (k i j : ℕ) → provider (rel i j) ≡ true → reach k i j ≡ true
  unfolding reach
  reach_one zero i j e = e
  reach_one (suc k) i j e = reach_more k i j (reach_one k i j e)

  -- two walks that meet below k are one
  reach_join : (k m i j : ℕ) → m < k → reach k i m ≡ true → reach k m j ≡ true → reach k i j ≡ true
  reach_join zero m i j h e f = let z : ⊥ = omega arith in elim z [ ]
  reach_join (suc k) m i j h e f =
      ⊎_elim
      (λ is.
      let to : reach k i k ≡ true = ⊎_elim (λ t. subst (λ x. reach k i x ≡ true) is t) (λ t. t.0) (reach_ways k i m e) in
      let on : reach k k j ≡ true = ⊎_elim (λ t. subst (λ x. reach k x j ≡ true) is t) (λ t. t.1) (reach_ways k m j f) in
      reach_over k i j to on)
      (λ ne.
      let lt : m < k = omega arith in
      ⊎_elim
      (λ a.
      ⊎_elim
      (λ b. reach_more k i j (reach_join k m i j lt a b))
      (λ b. reach_over k i j (reach_join k m i k lt a b.0) b.1)
      (reach_ways k m j f))
      (λ a.
      ⊎_elim
      (λ b. reach_over k i j a.0 (reach_join k m k j lt a.1 b))
      (λ b. reach_over k i j a.0 b.1)
      (reach_ways k m j f))
      (reach_ways k i m e))
      (cases_eq m k)

  not_itself : (n i : ℕ) → NoCycle rel → reach n i i ≡ false
  not_itself n i acyclic =
      ⊎_elim
      (λ e. let c = reach_chain n i i e in let z : ⊥ = acyclic (i ∷ c.0) c.1 in elim z [ ])
      (λ e. e)
      (cases_Bool (reach n i i))

pub heights : Heights
heights n rel both apart within acyclic =
    record {
      height = λ i. tally n (λ j. reach rel n j i);
      within = λ i h. subst (λ m. tally n (λ j. reach rel n j i) < m) (tally_all n) (tally_lt n i (λ j. reach rel n j i) (λ _. true) (λ k e. refl) h (not_itself rel n i acyclic) refl);
      falls = λ i j e.
          let up : rel j i ≡ Provider = both i j ∙ ap opposite e in
          let known : reach rel n j i ≡ true = reach_one rel n j i (ap provider up) in
          let lt : j < n = among rel n j i within up in
          tally_lt n j (λ x. reach rel n x j) (λ x. reach rel n x i) (λ x f. reach_join rel n j x i lt f known) lt (not_itself rel n j acyclic) known;
    }
