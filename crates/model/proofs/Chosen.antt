-- What is chosen: a candidate that none is before, and no other. Assumes nothing.
use Rattle.std.proofs.Common.{◌≡◌, ℕ, zero, suc, ◌<◌, Bool, true, false, ◌&&◌, ◌||◌, eqb, ltb, ◌⊎◌, length, Some, None, sym, refl, ap, ◌∙◌, subst, inl, inr, ⊎_elim, arith}
use Rattle.std.proofs.lemmas.Bool.{cases_Bool, cases_eq, cases_lt, cases_order, cond_both, cond-true, cond-false, both_ways}
use Rattle.std.proofs.lemmas.Bool.Decides.{nat_tests}
use Rattle.model.specs.declared.relation.Relation.{Relation}
use Rattle.model.specs.Selection.{Choice, nothing, local, via, Order, Said, rank, better, best, candidate, choose}
use Rattle.model.specs.SelectionLaws.{NoneBefore, NoneLeft, Only, OwnHome, Sayings, Strict, Usable}
use Rattle.model.proofs.Best.{held}
use Rattle.model.specs.Paths.{Path}
use Rattle.model.specs.Ports.{Port}
use Rattle.model.specs.World.{IsStrict}

-- three keys decide by the first difference
abbrev ahead : ℕ → ℕ → ℕ → ℕ → ℕ → ℕ → Bool
ahead a c j b d k = ltb a b || (eqb a b && (ltb c d || (eqb c d && (ltb j k || (eqb j k && false)))))

pub strict : Strict
strict rel = (
  record {
    irreflexive = λ j p. grind (arith, nat_tests);
    transitive = λ i j k o p q a b. grind (arith, nat_tests);
    weak = λ i j k o p q a. weaker (rank (rel i)) (rank (rel j)) (rank (rel k)) (length o.networks) (length p.networks) (length q.networks) i j k a;
    apart = λ j k p q ne. apart (rank (rel j)) (rank (rel k)) (length p.networks) (length q.networks) j k ne;
  },
  λ j k p q h. (grind (arith, nat_tests), grind (arith, nat_tests)),
)
  where
    apart : (a b c d j k : ℕ) → (j ≡ k → ⊥) → (ahead a c j b d k ≡ true) ⊎ (ahead b d k a c j ≡ true)
    apart a b c d j k ne =
        ⊎_elim
        (λ e. ⊎_elim
        (λ f. ⊎_elim (λ l. inl (grind (arith, nat_tests))) (λ l. inr (grind (arith, nat_tests))) (cases_lt j k))
        (⊎_elim (λ l. inl (grind (arith, nat_tests))) (λ l. inr (grind (arith, nat_tests))))
        (cases_order c d))
        (⊎_elim (λ l. inl (grind (arith, nat_tests))) (λ l. inr (grind (arith, nat_tests))))
        (cases_order a b)

    weaker : (a b c la lb lc i j k : ℕ) → ahead a la i c lc k ≡ true → (ahead a la i b lb j ≡ true) ⊎ (ahead b lb j c lc k ≡ true)
    weaker a b c la lb lc i j k h = ⊎_elim (λ t. inl t) (λ f. inr (grind (arith, nat_tests))) (cases_Bool (ahead a la i b lb j))

-- at home its own is chosen, elsewhere the best
pub elsewhere : (first : Order) (rel : Port → Relation) (up : Port → Bool) (me : ℕ) (own : Bool) (says : Sayings) (n : ℕ) → own ≡ false → choose first rel up me own says n ≡ best first (candidate rel up me says) n
elsewhere first rel up me own says n e = cond-false own local (best first (candidate rel up me says) n) e

pub at_home : (first : Order) (rel : Port → Relation) (up : Port → Bool) (me : ℕ) (own : Bool) (says : Sayings) (n : ℕ) → own ≡ true → choose first rel up me own says n ≡ local
at_home first rel up me own says n e = cond-true own local (best first (candidate rel up me says) n) e

never : {X : Type 0} (c : Choice) (j : ℕ) (p : Path) → c ≡ local → c ≡ via j p → X
never c j p e f = absurd (let z : ◌≡◌ {A = ℕ} 0 1 = cc in omega arith)

pub usable : Usable
usable first rel up me own says n j p e =
    ⊎_elim
    (λ h. never _ j p (at_home first rel up me own says n h) e)
    (λ ne. held first (candidate rel up me says) n j p (sym (elsewhere first rel up me own says n ne) ∙ e))
    (cases_Bool own)

-- what stands after n networks, where the order is strict
abbrev Stands : Order → Sayings → ℕ → Choice → Type 0
Stands first says n nothing = Unit {0}
Stands first says n local = Unit {0}
Stands first says n (via j p) = (k : ℕ) (q : Path) → k < n → says k ≡ Some q → first k q j p ≡ false

abbrev Empty : Sayings → ℕ → Choice → Type 0
Empty says n nothing = (k : ℕ) → k < n → says k ≡ None
Empty says n local = ⊥
Empty says n (via j p) = Unit {0}

below : (k n : ℕ) → k < suc n → (k < n) ⊎ (k ≡ n)
below k n h = ⊎_elim (λ u. inl u) (λ u. inr (omega arith)) (cases_lt k n)

empty_more : (first : Order) (says : Sayings) (n : ℕ) (o : Said) (b : Choice) → says n ≡ o → Empty says n b → Empty says (suc n) (better first b n o)
empty_more first says n None nothing e h = λ k l. ⊎_elim (λ u. h k u) (λ u. ap says u ∙ e) (below k n l)
empty_more first says n None local e h = h
empty_more first says n None (via j q) e h = tt
empty_more first says n (Some p) nothing e h = tt
empty_more first says n (Some p) local e h = absurd h
empty_more first says n (Some p) (via j q) e h = cond_both (first n p j q) (via n p) (via j q) (Empty says (suc n)) (λ _. tt) (λ _. tt)

best_empty : (first : Order) (says : Sayings) (n : ℕ) → Empty says n (best first says n)
best_empty first says zero = λ k l. absurd (omega arith)
best_empty first says (suc n) = empty_more first says n (says n) (best first says n) refl (best_empty first says n)

unsaid : {X : Type 0} (o : Said) (p : Path) → o ≡ None → o ≡ Some p → X
unsaid o p e f = absurd (let z : ◌≡◌ {A = ℕ} 0 1 = cc in omega arith)

same_path : (o : Said) (p q : Path) → o ≡ Some p → o ≡ Some q → p ≡ q
same_path o p q e f = cc

module _ (first : Order) (s : IsStrict first) (says : Sayings) where
  -- none below n + 1 is before the path by j, if none below n is, and that of n is not
  none_more : (n j : ℕ) (o : Said) (r : Path) → says n ≡ o → ((k : ℕ) (q : Path) → k < n → says k ≡ Some q → first k q j r ≡ false) → ((q : Path) → o ≡ Some q → first n q j r ≡ false) → (k : ℕ) (q : Path) → k < suc n → says k ≡ Some q → first k q j r ≡ false
  none_more n j o r e h at k q l f =
      ⊎_elim (λ u. h k q u f) (λ u. ap (λ x. first x q j r) u ∙ at q (sym e ∙ ap says (sym u) ∙ f)) (below k n l)

  at_itself : (n : ℕ) (p q : Path) → Some p ≡ Some q → first n q n p ≡ false
  at_itself n p q e = ap (λ x. first n x n p) (same_path (Some p) q p e refl) ∙ s.irreflexive n p

  not_past : (k n j : ℕ) (q p r : Path) → first n p j r ≡ true → first k q j r ≡ false → first k q n p ≡ false
  not_past k n j q p r a b = ⊎_elim (λ t. absurd (both_ways (first k q j r) b (s.transitive k n j q p r t a))) (λ f. f) (cases_Bool (first k q n p))

  stands_more : (n : ℕ) (o : Said) (b : Choice) → says n ≡ o → Empty says n b → Stands first says n b → Stands first says (suc n) (better first b n o)
  stands_more n None nothing e m h = tt
  stands_more n None local e m h = tt
  stands_more n None (via j r) e m h = none_more n j None r e h (λ q f. unsaid None q refl f)
  stands_more n (Some p) nothing e m h = none_more n n (Some p) p e (λ k q l f. unsaid (says k) q (m k l) f) (at_itself n p)
  stands_more n (Some p) local e m h = absurd m
  stands_more n (Some p) (via j r) e m h =
      cond_both (first n p j r) (via n p) (via j r) (Stands first says (suc n))
      (λ t. none_more n n (Some p) p e (λ k q l f. not_past k n j q p r t (h k q l f)) (at_itself n p))
      (λ t. none_more n j (Some p) r e h (λ q f. ap (λ x. first n x j r) (same_path (Some p) q p f refl) ∙ t))

  best_stands : (n : ℕ) → Stands first says n (best first says n)
  best_stands zero = tt
  best_stands (suc n) = stands_more n (says n) (best first says n) refl (best_empty first says n) (best_stands n)

  pub only_best : (n k : ℕ) (p : Path) → k < n → says k ≡ Some p → ((j : ℕ) (q : Path) → j < n → says j ≡ Some q → first j q k p ≡ false) → best first says n ≡ via k p
  only_best n k p l e none = go (best first says n) refl
    where
      go : (c : Choice) → best first says n ≡ c → best first says n ≡ via k p
      go nothing f = unsaid (says k) p (subst (Empty says n) f (best_empty first says n) k l) e
      go local f = absurd (subst (Empty says n) f (best_empty first says n))
      go (via j q) f =
          let h = held first says n j q f in
          let st : Stands first says n (via j q) = subst (Stands first says n) f (best_stands n) in
          ⊎_elim
          (λ u. f ∙ (λ i. via (u i) (same_path (says k) q p (ap says (sym u) ∙ h.1) e i)))
          (λ ne. ⊎_elim
          (λ t. absurd (both_ways (first j q k p) (none j q h.0 h.1) t))
          (λ t. absurd (both_ways (first k p j q) (st k p l e) t))
          (s.apart j k q p ne))
          (cases_eq j k)

pub none_before : NoneBefore
none_before first s rel up me own says n j p e =
    ⊎_elim
    (λ h. never _ j p (at_home first rel up me own says n h) e)
    (λ ne. subst (Stands first (candidate rel up me says) n) (sym (elsewhere first rel up me own says n ne) ∙ e) (best_stands first s (candidate rel up me says) n))
    (cases_Bool own)

pub none_left : NoneLeft
none_left first rel up me own says n e =
    ⊎_elim
    (λ h. let f = at_home first rel up me own says n h in absurd (let z : ◌≡◌ {A = ℕ} 0 1 = cc in omega arith))
    (λ ne. subst (Empty (candidate rel up me says) n) (sym (elsewhere first rel up me own says n ne) ∙ e) (best_empty first (candidate rel up me says) n))
    (cases_Bool own)

pub own_home : OwnHome
own_home first rel up me own says n = (
  λ e. ⊎_elim (λ h. h) (λ ne. absurd (subst (Empty (candidate rel up me says) n) (sym (elsewhere first rel up me own says n ne) ∙ e) (best_empty first (candidate rel up me says) n))) (cases_Bool own),
  at_home first rel up me own says n,
)

pub only : Only
only first s rel up me says n k p l e none =
    elsewhere first rel up me false says n refl ∙ only_best first s (candidate rel up me says) n k p l e none
