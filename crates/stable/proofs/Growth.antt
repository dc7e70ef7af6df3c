-- Sets from which ways lead to a home: with the homes alone, with one network more, and when none is left to add. Assumes nothing.
use Rattle.std.proofs.Common.{◌≡◌, ℕ, ◌+◌, ◌<◌, ◌≤◌, Bool, true, false, cond, ◌&&◌, ◌||◌, eqb, List, [], ◌∷◌, MatchBool, nat_lt, sym, refl, ap, ◌∙◌, subst, ⊎_elim, arith}
use Rattle.std.proofs.lemmas.Bool.{and_from, and_parts, cases_eq, false≢true, lt-ltb}
use Rattle.std.proofs.lemmas.Bool.Decides.{nat_tests}
use Rattle.model.specs.Stable.{Links}
use Rattle.convergence.proofs.Sums.{sum_add, sum_at, sum_same}
use Rattle.model.specs.declared.limits.TheConstants.{MOST_NETWORKS}
use Rattle.stable.specs.Ways.{Closed, Kept, Leads, Linked, Real, WayHome, outside}

module _ (n : ℕ) (links : Links) (is_home : ℕ → Bool) where
  -- so far: networks below i were looked at
  pub record Growing (i : ℕ) (before after : ℕ → Bool) (grown : Bool) : Type 0 where
    pub real : Real n links is_home before → Real n links is_home after
    pub kept : Kept before after
    pub fewer : outside n after + cond grown 1 0 ≤ outside n before
    pub closed : grown ≡ false → (j : ℕ) → j < i → Linked n links after j → after j ≡ true

  -- one network more in a set
  abbrev Joins : ℕ → (ℕ → Bool) → (ℕ → Bool) → Type 0
  Joins i old new = (k : ℕ) → new k ≡ (old k || (eqb k i && nat_lt i MOST_NETWORKS))

  joins_kept : (i : ℕ) (old new : ℕ → Bool) → Joins i old new → (k : ℕ) → old k ≡ true → new k ≡ true
  joins_kept i old new is k h = is k ∙ ap (λ b. b || (eqb k i && nat_lt i MOST_NETWORKS)) h

  joins_real : (i : ℕ) (old new : ℕ → Bool) → Joins i old new → Linked n links old i → Real n links is_home old → Real n links is_home new
  joins_real i old new is l real k hk h =
      ⊎_elim
      (λ e. let way = real l.0 l.1 l.2 in subst (λ v. WayHome n links is_home v) (sym e) (way.0, way.1, (l.0 ∷ way.2.0, (l.1, l.3, way.2.1))))
      (λ ne. let o = is k in real k hk (grind (arith, nat_tests, o, h)))
      (cases_eq k i)

  joins_fewer : (i : ℕ) (old new : ℕ → Bool) → i < n → i < MOST_NETWORKS → old i ≡ false → Joins i old new → outside n new + 1 ≡ outside n old
  joins_fewer i old new hi under out is =
      let at = sum_at n i 1 hi in
      let e = sum_same n (λ k. cond (old k) 0 1) (λ k. cond (new k) 0 1 + cond (eqb k i) 1 0) (λ k _. parts k) in
      let f = sum_add n (λ k. cond (new k) 0 1) (λ k. cond (eqb k i) 1 0) in
      omega (arith, at, e, f)
    where
      parts : (k : ℕ) → cond (old k) 0 1 ≡ cond (new k) 0 1 + cond (eqb k i) 1 0
      parts k =
          let o = is k in
          ⊎_elim (λ e. let g : old k ≡ false = ap old e ∙ out in grind (arith, nat_tests, o, g)) (λ ne. grind (arith, nat_tests, o)) (cases_eq k i)

  pub grows : (i : ℕ) (before old new : ℕ → Bool) (grown : Bool) → i < n → i < MOST_NETWORKS → Growing i before old grown → old i ≡ false → Linked n links old i → Joins i old new → Growing (i + 1) before new true
  grows i before old new grown hi under g out l is =
      record {
        real = λ r. joins_real i old new is l (g.real r);
        kept = λ k h. joins_kept i old new is k (g.kept k h);
        fewer = omega (arith, g.fewer, joins_fewer i old new hi under out is);
        closed = λ e. absurd (false≢true (sym e));
      }

  pub grows_not : (i : ℕ) (before old : ℕ → Bool) (grown : Bool) → Growing i before old grown → (Linked n links old i → old i ≡ true) → Growing (i + 1) before old grown
  grows_not i before old grown g stands =
      record {
        real = g.real;
        kept = g.kept;
        fewer = g.fewer;
        closed = λ e j hj l. ⊎_elim (λ same. subst (λ v. Linked n links old v → old v ≡ true) (sym same) stands l) (λ other. g.closed e j (omega arith) l) (cases_eq j i);
      }

  -- in a set to which none is left to add are all from which a way leads to a network of it
  inside : (within : ℕ → Bool) → Closed n links within → (home : ℕ) → within home ≡ true → (over : List ℕ) (i : ℕ) → i < n → Leads n links i over home → within i ≡ true
  inside within closed home at [] i hi l = ap within l ∙ at
  inside within closed home at (x ∷ xs) i hi l = closed i hi (x, l.0, inside within closed home at xs x l.0 l.2, l.1)

  -- with the homes alone in it
  pub from_homes : (homes : ℕ → Bool) → ((k : ℕ) → homes k ≡ (nat_lt k n && is_home k)) → Real n links is_home homes
  from_homes homes is i hi h = (i, (and_parts (nat_lt i n) (is_home i) (sym (is i) ∙ h)).1, ([], refl))

  pub homes_in : (homes : ℕ → Bool) → ((k : ℕ) → homes k ≡ (nat_lt k n && is_home k)) → (home : ℕ) → home < n → is_home home ≡ true → homes home ≡ true
  homes_in homes is home hh e = is home ∙ and_from (nat_lt home n) (is_home home) (lt-ltb home n hh) e

  end_below : (home : ℕ) (over : List ℕ) (i : ℕ) → i < n → Leads n links i over home → home < n
  end_below home [] i hi l = subst (λ v. v < n) l hi
  end_below home (x ∷ xs) i hi l = end_below home xs x l.0 l.2

  pub reached : (within : ℕ → Bool) → Real n links is_home within → Closed n links within → ((home : ℕ) → home < n → is_home home ≡ true → within home ≡ true) → (i : ℕ) → i < n → MatchBool (within i) (WayHome n links is_home i) (WayHome n links is_home i → ⊥)
  reached within real closed at i hi = by (within i) refl
    where
      by : (t : Bool) → within i ≡ t → MatchBool t (WayHome n links is_home i) (WayHome n links is_home i → ⊥)
      by true e = real i hi e
      by false e = λ way. absurd (false≢true (sym e ∙ inside within closed way.0 (at way.0 (end_below way.0 way.2.0 i hi way.2.1) way.1) way.2.0 i hi way.2.1))

pub linked_or_not : (n : ℕ) (links : Links) (within : ℕ → Bool) (i : ℕ) (r : Bool) → MatchBool r ((k : ℕ) × (k < n) × ((within k && links i k) ≡ true)) ((k : ℕ) → k < n → (within k && links i k) ≡ false) → MatchBool r (Linked n links within i) (Linked n links within i → ⊥)
linked_or_not n links within i true h = let p = and_parts (within h.0) (links i h.0) h.2 in (h.0, h.1, p.0, p.1)
linked_or_not n links within i false h = λ l. false≢true (sym (h l.0 l.1) ∙ and_from (within l.0) (links i l.0) l.2 l.3)
