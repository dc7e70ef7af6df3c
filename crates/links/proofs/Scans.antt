-- Tests of a path, one network on. Assumes nothing.
use Rattle.std.proofs.Common.{◌≡◌, ℕ, suc, ◌+◌, ◌-◌, ◌<◌, ◌≤◌, Bool, true, false, ◌&&◌, List, [], ◌∷◌, length, get_or, drop, Some, None, sym, refl, ap, ◌∙◌, arith}
use Rattle.std.specs.List.{slice_get}
use Rattle.std.proofs.lemmas.List.{at_drop_more, at_drop_all}
use Rattle.std.proofs.lemmas.Bool.{and_left}
use Rattle.std.proofs.lemmas.Option.{none-some, same_Some}
use Rattle.model.specs.Relations.{Between, provider}
use Rattle.model.specs.Paths.{ends, allowed, descends}

pub descends_more : (rel : Between) (climbing : Bool) (at : ℕ) (xs : List ℕ) (i : ℕ) → i < length xs → descends rel climbing at (drop i xs) ≡ (allowed climbing (rel at (get_or xs i 0)) && descends rel (climbing && provider (rel at (get_or xs i 0))) (get_or xs i 0) (drop (i + 1) xs))
descends_more rel climbing at xs i h = at_drop_more (descends rel climbing at) xs i 0 h

-- the last network, if there is one
pub ends_at : (is_home : ℕ → Bool) (xs : List ℕ) (last : ℕ) → slice_get xs (length xs - 1) ≡ Some last → is_home last ≡ ends is_home xs
ends_at is_home [] last e = absurd (none-some last e)
ends_at is_home (x ∷ []) last e = ap is_home (sym (same_Some x last e))
ends_at is_home (x ∷ y ∷ ys) last e =
    let a : suc (suc (length ys)) - 1 ≡ suc (length ys) = omega arith in
    let b : length ys ≡ suc (length ys) - 1 = omega arith in
    ends_at is_home (y ∷ ys) last (ap (slice_get (y ∷ ys)) (sym b) ∙ ap (slice_get (x ∷ y ∷ ys)) (sym a) ∙ e)

pub ends_nowhere : (is_home : ℕ → Bool) (xs : List ℕ) → slice_get xs (length xs - 1) ≡ None → false ≡ ends is_home xs
ends_nowhere is_home [] e = refl
ends_nowhere is_home (x ∷ []) e = absurd (none-some x (sym e))
ends_nowhere is_home (x ∷ y ∷ ys) e =
    let a : suc (suc (length ys)) - 1 ≡ suc (length ys) = omega arith in
    let b : length ys ≡ suc (length ys) - 1 = omega arith in
    ends_nowhere is_home (y ∷ ys) (ap (slice_get (y ∷ ys)) (sym b) ∙ ap (slice_get (x ∷ y ∷ ys)) (sym a) ∙ e)

-- what a turn of a loop over a path shows: the test of the rest is the test of the whole
module _ (xs : List ℕ) (i : ℕ) (t : Bool) where
  pub descends_no : (rel : Between) (climbing : Bool) (at : ℕ) → descends rel climbing at (drop i xs) ≡ t → i < length xs → allowed climbing (rel at (get_or xs i 0)) ≡ false → false ≡ t
  descends_no rel climbing at inv h not_so = sym (and_left _ _ not_so) ∙ sym (descends_more rel climbing at xs i h) ∙ inv

  pub descends_on : (rel : Between) (climbing : Bool) (at : ℕ) → descends rel climbing at (drop i xs) ≡ t → i < length xs → allowed climbing (rel at (get_or xs i 0)) ≡ true → descends rel (climbing && provider (rel at (get_or xs i 0))) (get_or xs i 0) (drop (i + 1) xs) ≡ t
  descends_on rel climbing at inv h ok = ap (λ b. b && descends rel (climbing && provider (rel at (get_or xs i 0))) (get_or xs i 0) (drop (i + 1) xs)) (sym ok) ∙ sym (descends_more rel climbing at xs i h) ∙ inv

  pub descends_end : (rel : Between) (climbing : Bool) (at : ℕ) → descends rel climbing at (drop i xs) ≡ t → length xs ≤ i → true ≡ t
  descends_end rel climbing at inv h = sym (at_drop_all (descends rel climbing at) xs i h) ∙ inv
