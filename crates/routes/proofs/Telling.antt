-- A line tells what it was made of.
use Rattle.std.proofs.Common.{◌≡◌, ℕ, ◌^◌, ◌<◌, Bool, true, cond, not, List, [], ◌∷◌, ◌++◌, length, get_or, drop, codes, decimal, sym, refl, ap, ◌∙◌, append_assoc, arith}
use Rattle.std.specs.Char.{is_ascii_digit}
use Rattle.std.specs.Str.{all_ascii_digits}
use Rattle.std.specs.Str.Parse.{digits_value}
use Rattle.std.proofs.lemmas.Fmt.{decimal_nonempty, decimal_injective, digits_decimal}
use Rattle.std.proofs.lemmas.List.{append_cancel_left}
use Rattle.std.proofs.lemmas.Str.Parse.{IsNumeralModel, numerals_by_value, tells_all_ascii_digits}
use Rattle.std.proofs.lemmas.Bool.{and_parts}
use Rattle.std.proofs.lemmas.Bool.Decides.{nat_tests}
use Rattle.text.specs.Row.{spelled}
use Rattle.model.specs.Selection.{Choice, nothing, local, via}
use Rattle.routes.specs.Laws.{AllSmall, LinesTellRoutes, Small}
use Rattle.routes.specs.Lines.{route_words}

-- what the library knows of texts of digits
own : IsNumeralModel (λ ds. all_ascii_digits ds ≡ true) (digits_value 10)
own = numerals_by_value _ tells_all_ascii_digits

-- no digit comes first
abbrev pub stops : List ℕ → Bool
stops [] = true
stops (b ∷ bs) = not (is_ascii_digit b)

-- the digits that come first
abbrev lead : List ℕ → List ℕ
lead [] = []
lead (b ∷ bs) = cond (is_ascii_digit b) (b ∷ lead bs) []

lead_stops : (xs : List ℕ) → stops xs ≡ true → lead xs ≡ []
lead_stops [] h = refl
lead_stops (b ∷ bs) h = grind (arith, nat_tests)

lead_on : (ds xs : List ℕ) → all_ascii_digits ds ≡ true → stops xs ≡ true → lead (ds ++ xs) ≡ ds
lead_on [] xs p q = lead_stops xs q
lead_on (b ∷ bs) xs p q =
    let h = and_parts (is_ascii_digit b) (all_ascii_digits bs) p in
    ap (λ t. cond t (b ∷ lead (bs ++ xs)) []) h.0 ∙ ap (λ l. b ∷ l) (lead_on bs xs h.1 q)

-- a number of any size, and what follows it
pub decimal_split : (m n : ℕ) (xs ys : List ℕ) → m < 2 ^ 64 → n < 2 ^ 64 → stops xs ≡ true → stops ys ≡ true → decimal m ++ xs ≡ decimal n ++ ys → (m ≡ n) × (xs ≡ ys)
decimal_split m n xs ys hm hn sx sy e =
    let dm = digits_decimal own m hm in
    let dn = digits_decimal own n hn in
    let same : decimal m ≡ decimal n = sym (lead_on (decimal m) xs dm sx) ∙ ap lead e ∙ lead_on (decimal n) ys dn sy in
    (decimal_injective m n hm hn same, append_cancel_left (decimal n) xs ys (sym (ap (λ l. l ++ xs) same) ∙ e))

wide : (n : ℕ) → n < 256 → n < 2 ^ 64
wide n h = omega arith

-- the number of a network, and what follows it
pub number_split : (m n : ℕ) (xs ys : List ℕ) → m < 256 → n < 256 → stops xs ≡ true → stops ys ≡ true → decimal m ++ xs ≡ decimal n ++ ys → (m ≡ n) × (xs ≡ ys)
number_split m n xs ys hm hn = decimal_split m n xs ys (wide m hm) (wide n hn)

-- a row of numbers, and the end of the line
abbrev row : List ℕ → List ℕ
row p = spelled p ++ (10 ∷ [])

abbrev after : List ℕ → List ℕ
after [] = 10 ∷ []
after (y ∷ ys) = 44 ∷ 32 ∷ row (y ∷ ys)

after_stops : (p : List ℕ) → stops (after p) ≡ true
after_stops [] = refl
after_stops (y ∷ ys) = refl

row_first : (x : ℕ) (p : List ℕ) → row (x ∷ p) ≡ decimal x ++ after p
row_first x [] = refl
row_first x (y ∷ ys) = append_assoc (decimal x ++ codes ", ") (spelled (y ∷ ys)) (10 ∷ []) ∙ append_assoc (decimal x) (codes ", ") (row (y ∷ ys))

same_after : (p q : List ℕ) → (row p ≡ row q → p ≡ q) → after p ≡ after q → p ≡ q
same_after [] [] h e = refl
same_after [] (y ∷ q) h e = let z : ◌≡◌ {A = ℕ} 10 44 = ap (λ l. get_or l 0 0) e in absurd (omega arith)
same_after (x ∷ p) [] h e = let z : ◌≡◌ {A = ℕ} 44 10 = ap (λ l. get_or l 0 0) e in absurd (omega arith)
same_after (x ∷ p) (y ∷ q) h e = h (ap (drop 2) e)

no_row : (x : ℕ) (p : List ℕ) → x < 256 → row [] ≡ row (x ∷ p) → ⊥
no_row x p h e =
    let none : [] ≡ decimal x = ap lead (e ∙ row_first x p) ∙ lead_on (decimal x) (after p) (digits_decimal own x (wide x h)) (after_stops p) in
    omega (arith, decimal_nonempty x (wide x h), ap length none)

same_row : (p q : List ℕ) → AllSmall p → AllSmall q → row p ≡ row q → p ≡ q
same_row [] [] hp hq e = refl
same_row [] (y ∷ q) hp hq e = absurd (no_row y q hq.0 e)
same_row (x ∷ p) [] hp hq e = absurd (no_row x p hp.0 (sym e))
same_row (x ∷ p) (y ∷ q) hp hq e =
    let s = number_split x y (after p) (after q) hp.0 hq.0 (after_stops p) (after_stops q) (sym (row_first x p) ∙ e ∙ row_first y q) in
    let more : p ≡ q = same_after p q (same_row p q hp.1 hq.1) s.1 in
    λ z. s.0 z ∷ more z

-- what follows the number of the network
abbrev pub tail : Choice → List ℕ
tail nothing = codes " nothing\n"
tail local = codes " home\n"
tail (via j path) = codes " by " ++ (decimal j ++ (codes " over " ++ row path.networks))

pub tail_stops : (c : Choice) → stops (tail c) ≡ true
tail_stops nothing = refl
tail_stops local = refl
tail_stops (via j path) = refl

pub tail_is : (i : ℕ) (c : Choice) → route_words i c ≡ decimal i ++ tail c
tail_is i nothing = refl
tail_is i local = refl
tail_is i (via j path) =
    append_assoc (decimal i) (codes " by " ++ (decimal j ++ codes " over ")) (row path.networks) ∙
    ap (λ l. decimal i ++ (codes " by " ++ l)) (append_assoc (decimal j) (codes " over ") (row path.networks))

pub differ : (l m : List ℕ) (k : ℕ) → get_or l k 0 < get_or m k 0 → l ≡ m → ⊥
differ l m k h e = omega (arith, h, ap (λ x. get_or x k 0) e)

pub same_tail : (c d : Choice) → Small c → Small d → tail c ≡ tail d → c ≡ d
same_tail nothing nothing hc hd e = refl
same_tail nothing local hc hd e = absurd (differ (tail local) (tail nothing) 1 (omega arith) (sym e))
same_tail nothing (via k q) hc hd e = absurd (differ (tail (via k q)) (tail nothing) 1 (omega arith) (sym e))
same_tail local nothing hc hd e = absurd (differ (tail local) (tail nothing) 1 (omega arith) e)
same_tail local local hc hd e = refl
same_tail local (via k q) hc hd e = absurd (differ (tail (via k q)) (tail local) 1 (omega arith) (sym e))
same_tail (via j p) nothing hc hd e = absurd (differ (tail (via j p)) (tail nothing) 1 (omega arith) e)
same_tail (via j p) local hc hd e = absurd (differ (tail (via j p)) (tail local) 1 (omega arith) e)
same_tail (via j p) (via k q) hc hd e =
    let s = number_split j k (codes " over " ++ row p.networks) (codes " over " ++ row q.networks) hc.0 hd.0 refl refl (ap (drop 4) e) in
    let more : p.networks ≡ q.networks = same_row p.networks q.networks hc.1 hd.1 (ap (drop 6) s.1) in
    λ z. via (s.0 z) (record { networks = more z })

pub lines_tell : LinesTellRoutes
lines_tell i k c d hi hk hc hd e =
    let s = number_split i k (tail c) (tail d) hi hk (tail_stops c) (tail_stops d) (sym (tail_is i c) ∙ e ∙ tail_is k d) in
    (s.0, same_tail c d hc hd s.1)
