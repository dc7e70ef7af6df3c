-- A loop over the numbers from 0 on, beside a list. Assumes nothing.
use Rattle.std.proofs.Common.{◌≡◌, ℕ, suc, ◌+◌, ◌-◌, ◌<◌, ◌≤◌, ◌⊎◌, List, [], ◌∷◌, length, get_or, drop, Some, None, Option, Bor, Iter, sym, ap, ◌∙◌, subst, inl, inr, arith}
use Rattle.std.specs.Option.{MatchOption}
use Rattle.std.specs.Iterator.{Yields}
use Rattle.std.specs.Iterator.Adapters.{zip_first, zip_second}
use Rattle.std.specs.Slice.Iter.{iter_rest}
use Rattle.std.specs.declared.iter.Zip.{Zip}
use Rattle.std.specs.declared.ops.RangeFrom.{RangeFrom}
use Rattle.std.proofs.iter.Yields.{fronts}
use Rattle.std.proofs.lemmas.Iterator.{zips}
use lib.ListN.{length-drop}
use lib.Seq.{get_or-drop}

-- the numbers of 16 bits, each one more than the one before it; they end before the greatest
abbrev pub upward : RangeFrom ℕ → Option ℕ → RangeFrom ℕ → Type 0
upward s r t = MatchOption r ((65535 - s.start ≡ 0) × (t ≡ s)) (λ x. (x ≡ s.start) × (t.start ≡ x + 1))

module _ {A : Type 0} where
  -- after so many pairs, the next number and what is left of the list
  so_far : (xs : List (ℕ × Bor A)) (s t : Zip (RangeFrom ℕ) (Iter A)) → Yields (zips upward fronts) s xs t → ((zip_first t).start ≡ (zip_first s).start + length xs) × (iter_rest (zip_second t) ≡ drop (length xs) (iter_rest (zip_second s))) × (length xs ≤ length (iter_rest (zip_second s)))
  so_far [] s t y = (omega (arith, ap (λ z. (zip_first {A = RangeFrom ℕ} {B = Iter A} z).start) (sym y)), ap (λ z. iter_rest (zip_second z)) (sym y), omega arith)
  so_far (x ∷ xs) s t y =
      let k = so_far xs y.0 t y.2 in
      (omega (arith, k.0, y.1.0.0, y.1.0.1), k.1 ∙ sym (ap (drop (suc (length xs))) y.1.1), omega (arith, k.2, ap length y.1.1))

  module _ (vs : List A) (xs : List (ℕ × Bor A)) (s t u : Zip (RangeFrom ℕ) (Iter A)) (r : Option (ℕ × Bor A)) (first : (zip_first s).start ≡ 0) (second : iter_rest (zip_second s) ≡ vs) (y : Yields (zips upward fronts) s xs t) where
    left : iter_rest (zip_second t) ≡ drop (length xs) vs
    left = (so_far xs s t y).1 ∙ ap (drop (length xs)) second

    -- the next pair
    pub counted_turn : (p : ℕ × Bor A) → r ≡ Some p → zips upward fronts t r u → (p.0 ≡ length xs) × (length xs < length vs) × ((d : A) → get_or vs (length xs) d ≡ p.1.now)
    counted_turn p e h =
        let step : zips upward fronts t (Some p) u = subst (λ o. zips upward fronts t o u) e h in
        let here : p.1.now ∷ iter_rest (zip_second u) ≡ drop (length xs) vs = sym step.1 ∙ left in
        let none : length xs + 0 ≡ length xs = omega arith in (
          omega (arith, step.0.0, (so_far xs s t y).0, first),
          omega (arith, ap length here, length-drop (length xs) vs),
          λ d. sym (ap (λ l. get_or l 0 d) here ∙ get_or-drop (length xs) vs 0 d ∙ ap (λ n. get_or vs n d) none),
        )

    -- the whole list was taken, if it is no longer than the numbers
    pub counted_end : length vs < 65535 → r ≡ None → zips upward fronts t r u → length xs ≡ length vs
    counted_end short e h = by (subst (λ o. zips upward fronts t o u) e h)
      where
        by : ((z : RangeFrom ℕ) × upward (zip_first t) None z) ⊎ ((z : Iter A) × fronts (zip_second t) None z) → length xs ≡ length vs
        by (inl a) = let k = so_far xs s t y in omega (arith, short, a.1.0, k.0, k.2, first, ap length second)
        by (inr b) = let k = so_far xs s t y in omega (arith, b.1.0, k.2, ap length second, ap length left, length-drop (length xs) vs)
