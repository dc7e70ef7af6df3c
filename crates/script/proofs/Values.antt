-- Numbers, digit by digit, of which those past the most count as one; a decimal reads back. Assumes nothing.
use Rattle.std.proofs.Common.{◌≡◌, ℕ, ◌+◌, ◌-◌, ◌*◌, ◌/◌, ◌%◌, ◌^◌, ◌<◌, Bool, true, false, cond, List, [], ◌∷◌, ◌++◌, Some, None, Option, decimal, sym, refl, ap, ◌∙◌, arith}
use Rattle.std.specs.Option.{option_map}
use Rattle.std.proofs.lemmas.Bool.{cond-true, cond-false}
use Rattle.std.proofs.lemmas.Bool.Decides.{nat_tests}
use Rattle.std.proofs.lemmas.Fmt.{decimal_by_steps}
use Rattle.script.specs.Digits.{is_digit, value, value_after, capped}

pub after_digit : (m b : ℕ) (bs : List ℕ) → is_digit b ≡ true → value_after m (b ∷ bs) ≡ value_after (m * 10 + (b - 48)) bs
unfolding value_after
after_digit m b bs e = cond-true (is_digit b) _ _ e

pub after_other : (m b : ℕ) (bs : List ℕ) → is_digit b ≡ false → value_after m (b ∷ bs) ≡ None
unfolding value_after
after_other m b bs e = cond-false (is_digit b) _ _ e

capped_step : (m k d : ℕ) → capped m ≡ capped k → capped (m * 10 + d) ≡ capped (k * 10 + d)
capped_step m k d e = omega arith

either_way : (t : Bool) (a b : Option ℕ) → option_map capped a ≡ option_map capped b → option_map capped (cond t a None) ≡ option_map capped (cond t b None)
either_way true a b e = e
either_way false a b e = refl

pub capped_after : (bs : List ℕ) (m k : ℕ) → capped m ≡ capped k → option_map capped (value_after m bs) ≡ option_map capped (value_after k bs)
unfolding value_after
capped_after [] m k e = ap (λ v. Some v) e
capped_after (b ∷ bs) m k e = either_way (is_digit b) _ _ (capped_after bs (m * 10 + (b - 48)) (k * 10 + (b - 48)) (capped_step m k (b - 48) e))

append_on : (t : Bool) (b : ℕ) (bs ys : List ℕ) (m k : ℕ) → is_digit b ≡ t → value_after m (b ∷ bs) ≡ Some k → ((i : ℕ) → value_after i bs ≡ Some k → value_after i (bs ++ ys) ≡ value_after k ys) → value_after m (b ∷ bs ++ ys) ≡ value_after k ys
append_on true b bs ys m k e h on = after_digit m b (bs ++ ys) e ∙ on (m * 10 + (b - 48)) (sym (after_digit m b bs e) ∙ h)
append_on false b bs ys m k e h on =
    let none = after_other m b bs e in
    let z : ◌≡◌ {A = ℕ} 0 1 = cc in absurd (omega arith)

after_append : (xs ys : List ℕ) (m k : ℕ) → value_after m xs ≡ Some k → value_after m (xs ++ ys) ≡ value_after k ys
unfolding value_after
after_append [] ys m k h = let e : m ≡ k = cc in ap (λ i. value_after i ys) e
after_append (b ∷ bs) ys m k h = append_on (is_digit b) b bs ys m k refl h (λ i. after_append bs ys i k)

last_digit : (m d n : ℕ) → d < 10 → m * 10 + d ≡ n → value_after m ((48 + d) ∷ []) ≡ Some n
unfolding value_after
last_digit m d n h e =
    let sum : m * 10 + (48 + d - 48) ≡ n = omega arith in
    after_digit m (48 + d) [] (grind (arith, nat_tests)) ∙ ap (λ v. Some v) sum

pub value_decimal : (n : ℕ) → n < 2 ^ 64 → value (decimal n) ≡ Some n
value_decimal =
    decimal_by_steps (λ n ds. value ds ≡ Some n)
    (λ n h. last_digit 0 n n h (omega arith))
    (λ n ds h e. after_append ds ((48 + n % 10) ∷ []) 0 (n / 10) e ∙ last_digit (n / 10) (n % 10) n (omega arith) (omega arith))
