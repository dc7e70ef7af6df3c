-- The only block that can hold an address is the last that begins at it or below it. Assumes nothing.
use Rattle.std.proofs.Common.{◌≡◌, ℕ, zero, suc, ◌+◌, ◌-◌, ◌<◌, ◌≤◌, true, false, cond, leb, List, length, get_or, Some, None, Option, sym, refl, ap, ◌∙◌, ⊎_elim, arith}
use Rattle.std.proofs.lemmas.Bool.{cases_lt, cond-true, le-leb, leb-true, and_from, and_right, and_parts, cases_eq, true≢false, false_from_ne_true}
use Rattle.std.proofs.lemmas.List.{get_or_default}
use Rattle.std.specs.List.Sorted.{IsNonDecreasingBy}
use Rattle.std.proofs.lemmas.List.Sorted.{IsNonDecreasingBy-from_all_adjacent}
use Rattle.blocks.specs.Ranges.{Orderly, Begun, block_among, block_at, holds, or_else}

module _ (firsts lasts : List ℕ) (a : ℕ) where
  pub none_among : (k : ℕ) → ((b : ℕ) → b < k → holds firsts lasts a b ≡ false) → block_among firsts lasts a k ≡ None
  unfolding block_among
  none_among zero none = refl
  none_among (suc k) none =
      (λ i. or_else (none_among k (λ b h. none b (omega arith)) i) (cond (none k (omega arith) i) (Some k) None))

  pub first_among : (k b : ℕ) → b < k → holds firsts lasts a b ≡ true → ((c : ℕ) → c < b → holds firsts lasts a c ≡ false) → block_among firsts lasts a k ≡ Some b
  unfolding block_among
  first_among zero b h one others = absurd (omega arith)
  first_among (suc k) b h one others = ⊎_elim
      (λ l. ap (λ x. or_else x (cond (holds firsts lasts a k) (Some k) None)) (first_among k b l one others))
      (λ l.
      let same : b ≡ k = omega arith in
      let none = none_among k (λ c m. others c (omega arith)) in
      (λ i. or_else (none i) (cond (holds firsts lasts a k) (Some k) None)) ∙ cond-true _ _ _ (ap (holds firsts lasts a) (sym same) ∙ one) ∙ ap Some (sym same))
      (cases_lt b k)

pub rising : (firsts lasts : List ℕ) → Orderly firsts lasts → IsNonDecreasingBy (λ x. x) firsts
rising firsts lasts o = IsNonDecreasingBy-from_all_adjacent (λ x. x) firsts (λ k d h.
    let next : suc k ≡ k + 1 = omega arith in
    omega (arith, get_or_default firsts k d 0 (omega arith), get_or_default firsts (k + 1) d 0 h, ap (λ n. get_or firsts n 0) next, o.each k (omega arith), o.apart k (omega arith)))

module _ (firsts lasts : List ℕ) (a past : ℕ) (o : Orderly firsts lasts) (p : Begun firsts a past) where
  holds_not : (b : ℕ) → ((get_or firsts b 0 ≤ a) × (a ≤ get_or lasts b 0) → ⊥) → holds firsts lasts a b ≡ false
  holds_not b out = false_from_ne_true _ (λ e. let parts = and_parts _ _ e in out (leb-true _ _ parts.0, leb-true _ _ parts.1))

  -- of the others none holds it
  pub others : (b : ℕ) → b < length firsts → (suc b ≡ past → ⊥) → holds firsts lasts a b ≡ false
  others b h ne = holds_not b (λ in_it. ⊎_elim
      (λ l. omega (arith, o.apart b (omega (arith, p.bound)), p.below (suc b) (omega (arith, ne)), in_it.1))
      (λ l. omega (arith, p.above b l h, in_it.0))
      (cases_lt b past))

  -- where none begins there, or the last that does ends before the address
  pub none_holds : ((b : ℕ) → suc b ≡ past → leb a (get_or lasts b 0) ≡ false) → (b : ℕ) → b < length firsts → holds firsts lasts a b ≡ false
  none_holds short b h = ⊎_elim
      (λ e. and_right _ _ (short b e))
      (λ ne. others b h ne)
      (cases_eq (suc b) past)

  pub holds_last : (b : ℕ) → suc b ≡ past → leb a (get_or lasts b 0) ≡ true → holds firsts lasts a b ≡ true
  holds_last b e h = and_from _ _ (le-leb _ _ (p.below b (omega arith))) h

  pub only_last : (b : ℕ) → suc b ≡ past → (c : ℕ) → c < length firsts → holds firsts lasts a c ≡ true → c ≡ b
  only_last b e c h is = ⊎_elim
      (λ same. omega arith)
      (λ ne. absurd (true≢false (sym is ∙ others c h ne)))
      (cases_eq (suc c) past)

  pub found : (b : ℕ) → suc b ≡ past → leb a (get_or lasts b 0) ≡ true → block_at firsts lasts a ≡ Some b
  found b e h = let in_it = p.bound in first_among firsts lasts a (length firsts) b (omega arith) (holds_last b e h) (λ c l. others c (omega arith) (λ same. omega arith))

-- what halving answers, by where the address stands
module _ (firsts lasts : List ℕ) (a past : ℕ) where
  pub none_begins : (r : Option ℕ) → r ≡ None → Orderly firsts lasts → Begun firsts a past → (1 ≤ past → ⊥) → r ≡ block_at firsts lasts a
  none_begins r e o p none = e ∙ sym (none_among firsts lasts a (length firsts) (none_holds firsts lasts a past o p (λ k at. absurd (none (omega arith)))))

  pub falls_short : (b : ℕ) → Orderly firsts lasts → Begun firsts a past → (1 ≤ past) × (b ≡ past - 1) → false ≡ leb a (get_or lasts b 0) → None ≡ block_at firsts lasts a
  falls_short b o p last short = sym (none_among firsts lasts a (length firsts) (none_holds firsts lasts a past o p (λ k at. let same : k ≡ b = omega arith in ap (λ m. leb a (get_or lasts m 0)) same ∙ sym short)))

  pub goes_as_far : (b : ℕ) → Orderly firsts lasts → Begun firsts a past → (1 ≤ past) × (b ≡ past - 1) → true ≡ leb a (get_or lasts b 0) → Some b ≡ block_at firsts lasts a
  goes_as_far b o p last long = sym (found firsts lasts a past o p b (omega arith) (sym long))
