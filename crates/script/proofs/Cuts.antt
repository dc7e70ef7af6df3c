-- Runs of bytes, and the first word of a text. Assumes nothing.
use Rattle.std.proofs.Common.{◌≡◌, ℕ, ◌+◌, ◌<◌, Bool, true, false, cond, not, List, [], ◌∷◌, length, take, drop, sym, refl, ap, ◌∙◌, subst, one-add, arith}
use Rattle.std.specs.List.{prefix_len}
use Rattle.std.proofs.lemmas.Bool.{cond-true, cond-false}
use Rattle.script.specs.Parts.{before, from, is_blank, is_solid, words, opened, ended}

take_run : (t : Bool) (n b : ℕ) (bs front : List ℕ) → front ≡ take n bs → cond t [] (b ∷ front) ≡ take (cond (not t) (1 + n) 0) (b ∷ bs)
take_run true n b bs front e = refl
take_run false n b bs front e = ap (λ l. b ∷ l) e ∙ ap (λ m. take m (b ∷ bs)) (sym (one-add n))

drop_run : (t : Bool) (n b : ℕ) (bs back : List ℕ) → back ≡ drop n bs → cond t (b ∷ bs) back ≡ drop (cond (not t) (1 + n) 0) (b ∷ bs)
drop_run true n b bs back e = refl
drop_run false n b bs back e = e ∙ ap (λ m. drop m (b ∷ bs)) (sym (one-add n))

pub before_is : (p : ℕ → Bool) (bs : List ℕ) → before p bs ≡ take (prefix_len (λ b. not (p b)) bs) bs
unfolding before
before_is p [] = refl
before_is p (b ∷ bs) = take_run (p b) _ b bs _ (before_is p bs)

pub from_is : (p : ℕ → Bool) (bs : List ℕ) → from p bs ≡ drop (prefix_len (λ b. not (p b)) bs) bs
unfolding from
from_is p [] = refl
from_is p (b ∷ bs) = drop_run (p b) _ b bs _ (from_is p bs)

module _ (p : ℕ → Bool) (b : ℕ) (bs : List ℕ) where
  pub before_stop : p b ≡ true → before p (b ∷ bs) ≡ []
  unfolding before
  before_stop e = cond-true (p b) _ _ e

  pub before_on : p b ≡ false → before p (b ∷ bs) ≡ b ∷ before p bs
  unfolding before
  before_on e = cond-false (p b) _ _ e

  pub from_stop : p b ≡ true → from p (b ∷ bs) ≡ b ∷ bs
  unfolding from
  from_stop e = cond-true (p b) _ _ e

  pub from_on : p b ≡ false → from p (b ∷ bs) ≡ from p bs
  unfolding from
  from_on e = cond-false (p b) _ _ e

module _ (b : ℕ) (bs : List ℕ) where
  pub words_blank : is_blank b ≡ true → words (b ∷ bs) ≡ words bs
  unfolding words
  words_blank e = cond-true (is_blank b) _ _ e

  pub words_last : is_blank b ≡ false → ended bs ≡ true → words (b ∷ bs) ≡ (b ∷ []) ∷ words bs
  unfolding words
  words_last e h = cond-false (is_blank b) _ _ e ∙ cond-true (ended bs) _ _ h

  pub words_on : is_blank b ≡ false → ended bs ≡ false → words (b ∷ bs) ≡ opened b (words bs)
  unfolding words
  words_on e h = cond-false (is_blank b) _ _ e ∙ cond-false (ended bs) _ _ h

abbrev FirstWord : ℕ → List ℕ → Type 0
FirstWord b bs = words (b ∷ bs) ≡ before is_blank (b ∷ bs) ∷ words (from is_blank (b ∷ bs))

word_on : (t : Bool) (b d : ℕ) (ds : List ℕ) → is_blank b ≡ false → is_blank d ≡ t → (is_blank d ≡ false → FirstWord d ds) → FirstWord b (d ∷ ds)
word_on true b d ds e h on =
    words_last b (d ∷ ds) e h ∙
    (λ i. sym (before_on is_blank b (d ∷ ds) e ∙ ap (λ l. b ∷ l) (before_stop is_blank d ds h)) i ∷ words (sym (from_on is_blank b (d ∷ ds) e ∙ from_stop is_blank d ds h) i))
word_on false b d ds e h on =
    words_on b (d ∷ ds) e h ∙ ap (opened b) (on h) ∙
    (λ i. sym (before_on is_blank b (d ∷ ds) e) i ∷ words (sym (from_on is_blank b (d ∷ ds) e) i))

first_word : (b : ℕ) (bs : List ℕ) → is_blank b ≡ false → FirstWord b bs
unfolding words before from
first_word b [] e = rw e refl
first_word b (d ∷ ds) e = word_on (is_blank d) b d ds e refl (first_word d ds)

-- the first word begins where the blanks end
abbrev WordOf : List ℕ → Type 0
WordOf bs = 0 < length (from is_solid bs) → words bs ≡ before is_blank (from is_solid bs) ∷ words (from is_blank (from is_solid bs))

word_past : (t : Bool) (b : ℕ) (bs : List ℕ) → is_blank b ≡ t → WordOf bs → WordOf (b ∷ bs)
word_past true b bs e on h =
    let skip : from is_solid (b ∷ bs) ≡ from is_solid bs = from_on is_solid b bs (ap not e) in
    words_blank b bs e ∙ on (subst (λ l. 0 < length l) skip h) ∙ ap (λ l. before is_blank l ∷ words (from is_blank l)) (sym skip)
word_past false b bs e on h =
    first_word b bs e ∙ ap (λ l. before is_blank l ∷ words (from is_blank l)) (sym (from_stop is_solid b bs (ap not e)))

pub word_of : (bs : List ℕ) → WordOf bs
unfolding from
word_of [] h = absurd (omega arith)
word_of (b ∷ bs) h = word_past (is_blank b) b bs refl (word_of bs) h

abbrev NoWord : List ℕ → Type 0
NoWord bs = from is_solid bs ≡ [] → words bs ≡ []

word_none : (t : Bool) (b : ℕ) (bs : List ℕ) → is_blank b ≡ t → NoWord bs → NoWord (b ∷ bs)
word_none true b bs e on h = words_blank b bs e ∙ on (sym (from_on is_solid b bs (ap not e)) ∙ h)
word_none false b bs e on h =
    let some = from_stop is_solid b bs (ap not e) in
    let z : ◌≡◌ {A = ℕ} 0 1 = cc in absurd (omega arith)

pub no_word : (bs : List ℕ) → NoWord bs
unfolding words
no_word [] h = refl
no_word (b ∷ bs) h = word_none (is_blank b) b bs refl (no_word bs) h
