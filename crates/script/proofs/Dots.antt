-- The parts of a word between dots, taken off one by one. Assumes nothing.
use Rattle.std.proofs.Common.{◌≡◌, ℕ, ◌+◌, ◌-◌, ◌*◌, Bool, true, false, List, [], ◌∷◌, length, Some, None, Option, ◌⊎◌, inl, inr, sym, refl, ap, ◌∙◌, arith}
use Rattle.std.specs.List.{onto_first}
use Rattle.std.proofs.lemmas.Bool.Decides.{nat_tests}
use Rattle.std.proofs.lemmas.List.Splits.{slice_split-cons_yes, slice_split-cons_no}
use Rattle.script.specs.Addresses.{between_dots, byte, is_dot, of_four, of_parts, small}
use Rattle.script.specs.Digits.{is_digit, value_after}
use Rattle.script.specs.Parts.{before, from}
use Rattle.script.proofs.Cuts.{before_on, before_stop, from_on, from_stop}
use Rattle.script.proofs.Values.{after_digit, after_other}

abbrev FirstPart : List ℕ → Type 0
FirstPart w = (rest : List ℕ) (d : ℕ) → from is_dot w ≡ d ∷ rest → between_dots w ≡ before is_dot w ∷ between_dots rest

first_on : (t : Bool) (b : ℕ) (bs : List ℕ) → is_dot b ≡ t → FirstPart bs → FirstPart (b ∷ bs)
first_on true b bs e on rest d h =
    let same : b ∷ bs ≡ d ∷ rest = sym (from_stop is_dot b bs e) ∙ h in
    let tail : bs ≡ rest = cc in
    slice_split-cons_yes is_dot b bs e ∙ (λ i. sym (before_stop is_dot b bs e) i ∷ between_dots (tail i))
first_on false b bs e on rest d h =
    slice_split-cons_no is_dot b bs e ∙
    ap (onto_first b) (on rest d (sym (from_on is_dot b bs e) ∙ h)) ∙
    ap (λ p. p ∷ between_dots rest) (sym (before_on is_dot b bs e))

first_is : (w : List ℕ) → FirstPart w
unfolding from
first_is [] rest d h = let z : ◌≡◌ {A = ℕ} 0 1 = cc in absurd (omega arith)
first_is (b ∷ bs) rest d h = first_on (is_dot b) b bs refl (first_is bs) rest d h

-- before the first dot
pub first_part : (w part rest : List ℕ) (d : ℕ) → part ≡ before is_dot w → from is_dot w ≡ d ∷ rest → between_dots w ≡ part ∷ between_dots rest
first_part w part rest d p r = first_is w rest d r ∙ ap (λ l. l ∷ between_dots rest) (sym p)

only_on : (t : Bool) (b : ℕ) (bs : List ℕ) → is_dot b ≡ t → (length (from is_dot bs) ≡ 0 → between_dots bs ≡ bs ∷ []) → length (from is_dot (b ∷ bs)) ≡ 0 → between_dots (b ∷ bs) ≡ (b ∷ bs) ∷ []
only_on true b bs e on h = absurd (omega (arith, ap length (from_stop is_dot b bs e)))
only_on false b bs e on h = slice_split-cons_no is_dot b bs e ∙ ap (onto_first b) (on (sym (ap length (from_on is_dot b bs e)) ∙ h))

-- without a dot
pub only_part : (w : List ℕ) → length (from is_dot w) ≡ 0 → between_dots w ≡ w ∷ []
only_part [] h = refl
only_part (b ∷ bs) h = only_on (is_dot b) b bs refl (only_part bs) h

-- a word with a dot: it is no number, and has more parts than one
record Dotted (w : List ℕ) : Type 0 where
  none : (m : ℕ) → value_after m w ≡ None
  first : List ℕ
  second : List ℕ
  more : List (List ℕ)
  parts : between_dots w ≡ first ∷ second ∷ more

abbrev Whole : List ℕ → Type 0
Whole w = between_dots w ≡ w ∷ []

no_number : (t : Bool) (b : ℕ) (bs : List ℕ) (m : ℕ) → is_digit b ≡ t → ((k : ℕ) → value_after k bs ≡ None) → value_after m (b ∷ bs) ≡ None
no_number true b bs m e h = after_digit m b bs e ∙ h (m * 10 + (b - 48))
no_number false b bs m e h = after_other m b bs e

dot_is_no_digit : (b : ℕ) → is_dot b ≡ true → is_digit b ≡ false
dot_is_no_digit b e = grind (arith, nat_tests)

more_on : (b : ℕ) (bs : List ℕ) → is_dot b ≡ false → Whole bs ⊎ Dotted bs → Whole (b ∷ bs) ⊎ Dotted (b ∷ bs)
more_on b bs e (inl h) = inl (slice_split-cons_no is_dot b bs e ∙ ap (onto_first b) h)
more_on b bs e (inr h) = inr (record {
  none = λ m. no_number (is_digit b) b bs m refl h.none;
  first = b ∷ h.first;
  second = h.second;
  more = h.more;
  parts = slice_split-cons_no is_dot b bs e ∙ ap (onto_first b) h.parts;
})

stop_on : (b : ℕ) (bs : List ℕ) → is_dot b ≡ true → Whole bs ⊎ Dotted bs → Dotted (b ∷ bs)
stop_on b bs e (inl h) = record {
  none = λ m. after_other m b bs (dot_is_no_digit b e);
  first = [];
  second = bs;
  more = [];
  parts = slice_split-cons_yes is_dot b bs e ∙ ap (λ l. [] ∷ l) h;
}
stop_on b bs e (inr h) = record {
  none = λ m. after_other m b bs (dot_is_no_digit b e);
  first = [];
  second = h.first;
  more = h.second ∷ h.more;
  parts = slice_split-cons_yes is_dot b bs e ∙ ap (λ l. [] ∷ l) h.parts;
}

either_on : (t : Bool) (b : ℕ) (bs : List ℕ) → is_dot b ≡ t → Whole bs ⊎ Dotted bs → Whole (b ∷ bs) ⊎ Dotted (b ∷ bs)
either_on true b bs e h = inr (stop_on b bs e h)
either_on false b bs e h = more_on b bs e h

either : (w : List ℕ) → Whole w ⊎ Dotted w
either [] = inl refl
either (b ∷ bs) = either_on (is_dot b) b bs refl (either bs)

no_byte : (w : List ℕ) → ((m : ℕ) → value_after m w ≡ None) → byte w ≡ None
no_byte [] h = refl
no_byte (b ∷ bs) h = ap small (h 0)

no_fourth : (a b c : Option ℕ) → of_four a b c None ≡ None
no_fourth None b c = refl
no_fourth (Some x) None c = refl
no_fourth (Some x) (Some y) None = refl
no_fourth (Some x) (Some y) (Some z) = refl

last_by : (a b c w : List ℕ) → Whole w ⊎ Dotted w → of_parts (a ∷ b ∷ c ∷ between_dots w) ≡ of_four (byte a) (byte b) (byte c) (byte w)
last_by a b c w (inl h) = ap (λ l. of_parts (a ∷ b ∷ c ∷ l)) h
last_by a b c w (inr h) =
    ap (λ l. of_parts (a ∷ b ∷ c ∷ l)) h.parts ∙
    sym (no_fourth (byte a) (byte b) (byte c)) ∙
    ap (of_four (byte a) (byte b) (byte c)) (sym (no_byte w h.none))

-- what is left after three dots is the fourth part, or no number at all
pub last_part : (a b c w : List ℕ) → of_parts (a ∷ b ∷ c ∷ between_dots w) ≡ of_four (byte a) (byte b) (byte c) (byte w)
last_part a b c w = last_by a b c w (either w)
