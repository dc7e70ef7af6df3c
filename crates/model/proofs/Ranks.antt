-- What the neighbours of the ranks below one offer decides whether one of them is chosen, and which. Assumes nothing.
use Rattle.std.proofs.Common.{◌≡◌, ℕ, zero, suc, ◌<◌, ◌≤◌, Some, None, sym, refl, ap, ◌∙◌, subst, inl, inr, ⊎_elim, arith}
use Rattle.std.proofs.lemmas.Bool.{cases_lt, cond_both, cond-true, cond-false, cases_Bool}
use Rattle.model.specs.declared.relation.Relation.{Relation}
use Rattle.model.specs.Selection.{Said, Choice, nothing, local, via, Order, rank, better, best, candidate}
use Rattle.model.specs.SelectionLaws.{Agreed, NotBelow, RankDecides, Sayings}
use Rattle.model.proofs.Chosen.{at_home, elsewhere}
use Rattle.model.specs.Paths.{Path}
use Rattle.model.specs.Ports.{Port}
use Rattle.model.specs.World.{RankFirst}

module _ (first : Order) (rel : Port → Relation) (ranked : RankFirst rel first) (t : ℕ) where
  -- a candidate of a rank below t takes the place of what is of none
  taken : (n : ℕ) (p : Path) (a : Choice) → rank (rel n) < t → NotBelow t rel a → better first a n (Some p) ≡ via n p
  taken n p nothing l h = refl
  taken n p local l h = refl
  taken n p (via j q) l h = cond-true (first n p j q) (via n p) (via j q) (ranked n j p q (omega arith)).0

  -- one of no such rank does not take the place of one of such
  kept : (n j : ℕ) (q : Path) (o : Said) → rank (rel j) < t → t ≤ rank (rel n) → better first (via j q) n o ≡ via j q
  kept n j q None l h = refl
  kept n j q (Some p) l h = cond-false (first n p j q) (via n p) (via j q) (ranked j n q p (omega arith)).1

  still_not : (n : ℕ) (o : Said) (a : Choice) → t ≤ rank (rel n) → NotBelow t rel a → NotBelow t rel (better first a n o)
  still_not n None a l h = h
  still_not n (Some p) nothing l h = l
  still_not n (Some p) local l h = l
  still_not n (Some p) (via j q) l h = cond_both (first n p j q) (via n p) (via j q) (NotBelow t rel) (λ _. l) (λ _. h)

  -- from one choice of such a rank comes one
  same_low : (n j : ℕ) (q : Path) (o : Said) → rank (rel n) < t → rank (rel j) < t → (k : ℕ) × (p : Path) × (rank (rel k) < t) × (better first (via j q) n o ≡ via k p)
  same_low n j q None l h = (j, q, h, refl)
  same_low n j q (Some p) l h =
      ⊎_elim
      (λ e. (n, p, l, cond-true (first n p j q) (via n p) (via j q) e))
      (λ e. (j, q, h, cond-false (first n p j q) (via n p) (via j q) e))
      (cases_Bool (first n p j q))

  low_more : (n : ℕ) (o : Said) (a b : Choice) → rank (rel n) < t → Agreed t rel a b → Agreed t rel (better first a n o) (better first b n o)
  low_more n None a b l h = h
  low_more n (Some p) a b l h =
      ⊎_elim
      (λ s. let m = same_low n s.0 s.1 (Some p) l s.2 in
      inl (m.0, m.1, m.2, ap (λ x. better first x n (Some p)) s.3 ∙ m.3, ap (λ x. better first x n (Some p)) s.4 ∙ m.3))
      (λ s. inl (n, p, l, taken n p a l s.0, taken n p b l s.1))
      h

  agreed_more : (n : ℕ) (o o' : Said) (a b : Choice) → (rank (rel n) < t → o ≡ o') → Agreed t rel a b → Agreed t rel (better first a n o) (better first b n o')
  agreed_more n o o' a b same h =
      ⊎_elim
      (λ l. subst (λ x. Agreed t rel (better first a n o) (better first b n x)) (same l) (low_more n o a b l h))
      (λ l. ⊎_elim
      (λ s. inl (s.0, s.1, s.2, ap (λ x. better first x n o) s.3 ∙ kept n s.0 s.1 o s.2 l, ap (λ x. better first x n o') s.4 ∙ kept n s.0 s.1 o' s.2 l))
      (λ s. inr (still_not n o a l s.0, still_not n o' b l s.1))
      h)
      (cases_lt (rank (rel n)) t)

  best_agreed : (says says' : Sayings) (n : ℕ) → ((j : ℕ) → j < n → rank (rel j) < t → says j ≡ says' j) → Agreed t rel (best first says n) (best first says' n)
  best_agreed says says' zero same = inr (tt, tt)
  best_agreed says says' (suc n) same =
      agreed_more n (says n) (says' n) (best first says n) (best first says' n) (same n (omega arith)) (best_agreed says says' n (λ j l. same j (omega arith)))

  agreed_at : (a a' b b' : Choice) → a ≡ a' → b ≡ b' → Agreed t rel a' b' → Agreed t rel a b
  agreed_at a a' b b' e f h = subst (λ x. Agreed t rel x b) (sym e) (subst (Agreed t rel a') (sym f) h)

pub rank_decides_lem : RankDecides
rank_decides_lem first rel ranked t me own n up up' says says' same =
    ⊎_elim
    (λ h. agreed_at first rel ranked t _ local _ local (at_home first rel up me own says n h) (at_home first rel up' me own says' n h) (inr (tt, tt)))
    (λ ne. agreed_at first rel ranked t _ _ _ _ (elsewhere first rel up me own says n ne) (elsewhere first rel up' me own says' n ne) (best_agreed first rel ranked t (candidate rel up me says) (candidate rel up' me says') n same))
    (cases_Bool own)
