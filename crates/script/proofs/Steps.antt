-- A script, one line on. Assumes nothing.
use Rattle.std.proofs.Common.{◌≡◌, ℕ, ◌+◌, ◌<◌, ◌≤◌, Bool, true, false, List, [], ◌∷◌, length, drop, None, Ok, Option, Result, sym, refl, ap, ◌∙◌, arith, length-drop}
use Rattle.std.proofs.lemmas.Bool.{cond-true, cond-false}
use Rattle.script.specs.declared.cause.Cause.{Cause}
use Rattle.script.specs.Next.{Reader, ahead_by, ahead_in, reached}
use Rattle.script.specs.Parts.{before, from, is_feed, lines, longer}
use Rattle.script.proofs.Cuts.{before_stop, before_on, from_stop, from_on}

-- what follows the first line
abbrev pub beyond : List ℕ → List ℕ
beyond bs = drop 1 (from is_feed bs)

shorter_on : (t : Bool) (b : ℕ) (bs : List ℕ) → is_feed b ≡ t → length (from is_feed bs) ≤ length bs → length (from is_feed (b ∷ bs)) ≤ length (b ∷ bs)
shorter_on true b bs e h = omega (arith, ap length (from_stop is_feed b bs e))
shorter_on false b bs e h = omega (arith, ap length (from_on is_feed b bs e))

from_shorter : (bs : List ℕ) → length (from is_feed bs) ≤ length bs
unfolding from
from_shorter [] = omega arith
from_shorter (b ∷ bs) = shorter_on (is_feed b) b bs refl (from_shorter bs)

-- a line takes at least one byte
pub beyond_shorter : (bs : List ℕ) → 0 < length bs → length (beyond bs) < length bs
beyond_shorter bs h = omega (arith, from_shorter bs, length-drop 1 (from is_feed bs))

abbrev FirstLine : List ℕ → Type 0
FirstLine bs = lines bs ≡ record { text = before is_feed bs; after = beyond bs } ∷ lines (beyond bs)

lines_feed : (b : ℕ) (bs : List ℕ) → is_feed b ≡ true → lines (b ∷ bs) ≡ record { text = []; after = bs } ∷ lines bs
unfolding lines
lines_feed b bs e = cond-true (is_feed b) _ _ e

lines_longer : (b : ℕ) (bs : List ℕ) → is_feed b ≡ false → lines (b ∷ bs) ≡ longer b (lines bs)
unfolding lines
lines_longer b bs e = cond-false (is_feed b) _ _ e

line_on : (t : Bool) (b : ℕ) (bs : List ℕ) → is_feed b ≡ t → (is_feed b ≡ false → FirstLine (b ∷ bs)) → FirstLine (b ∷ bs)
line_on true b bs e on =
    let back : beyond (b ∷ bs) ≡ bs = ap (drop 1) (from_stop is_feed b bs e) in
    lines_feed b bs e ∙ (λ i. record { text = sym (before_stop is_feed b bs e) i; after = sym back i } ∷ lines (sym back i))
line_on false b bs e on = on e

on_longer : (b : ℕ) (bs : List ℕ) → FirstLine bs → is_feed b ≡ false → FirstLine (b ∷ bs)
on_longer b bs first e =
    let back : beyond (b ∷ bs) ≡ beyond bs = ap (drop 1) (from_on is_feed b bs e) in
    lines_longer b bs e ∙ ap (longer b) first ∙ (λ i. record { text = sym (before_on is_feed b bs e) i; after = sym back i } ∷ lines (sym back i))

only_one : (b : ℕ) → is_feed b ≡ false → FirstLine (b ∷ [])
unfolding lines before from
only_one b e = rw e refl

pub first_line : (b : ℕ) (bs : List ℕ) → FirstLine (b ∷ bs)
first_line b [] = line_on (is_feed b) b [] refl (only_one b)
first_line b (d ∷ ds) = line_on (is_feed b) b (d ∷ ds) refl (on_longer b (d ∷ ds) (first_line d ds))

module _ {T : Type 0} (reads : Reader T) where
  pub ahead_more : (k : ℕ) (bs : List ℕ) → 0 < length bs → ahead_by reads k bs ≡ reached (reads (before is_feed bs)) (k + 1) (beyond bs) (ahead_by reads (k + 1) (beyond bs))
  unfolding ahead_in
  ahead_more k [] h = absurd (omega arith)
  ahead_more k (b ∷ bs) h = ap (ahead_in reads k) (first_line b bs)

  pub ahead_none : (k : ℕ) (bs : List ℕ) → length bs ≡ 0 → ahead_by reads k bs ≡ record { answer = Ok None; line = k; left = bs }
  unfolding ahead_in lines
  ahead_none k [] h = refl
  ahead_none k (b ∷ bs) h = absurd (omega arith)

  -- one line is read, and this is its answer
  pub ahead_read : (k k' : ℕ) (bs text left : List ℕ) (r : Result (Option T) Cause) → 0 < length bs → text ≡ before is_feed bs → left ≡ beyond bs → k' ≡ k + 1 → r ≡ reads text → ahead_by reads k bs ≡ reached r k' left (ahead_by reads k' left)
  ahead_read k k' bs text left r h t l e a =
      ahead_more k bs h ∙ (λ i. reached (sym (a ∙ ap reads t) i) (sym e i) (sym l i) (ahead_by reads (sym e i) (sym l i)))
