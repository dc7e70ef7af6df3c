-- What is read without a fault is written as the bytes that it was read of. Assumes nothing.
use Rattle.std.proofs.Common.{◌≡◌, ℕ, ◌+◌, ◌*◌, ◌/◌, ◌%◌, ◌^◌, ◌<◌, ◌≤◌, ◌⊎◌, true, cond, ◌||◌, eqb, List, [], ◌∷◌, ◌++◌, length, get_or, drop, None, sym, refl, ap, subst, ◌∙◌, inl, inr, ⊎_elim, arith, length-append, length-drop, drop-cons}
use Rattle.std.proofs.lemmas.List.{length-take-le, take-append-drop, drop-drop}
use Rattle.std.proofs.lemmas.Bool.{cond-true, eqb-true, or_cases}
use Rattle.std.proofs.lemmas.Bool.Decides.{nat_tests}
use Rattle.text.specs.Dotted.{address_bytes, byte0, byte1, byte2, byte3}
use Rattle.messages.specs.Places.{network, kind, block, address, path_length, path, link_state, fits, way_extent, extent_by, extent}
use Rattle.messages.specs.Faults.{fault}
use Rattle.messages.specs.Reading.{thing_by, message_in}
use Rattle.messages.specs.Encoding.{bytes_of}
use Rattle.messages.specs.Laws.{Bytes, Written}

-- what it means that nothing is told of a message
pub record Sound (bs : List ℕ) : Type 0 where
  pub whole : extent bs ≤ length bs
  pub known : (eqb (kind bs) 1 || eqb (kind bs) 2 || eqb (kind bs) 3 || eqb (kind bs) 4) ≡ true
  pub fit : kind bs ≡ 1 → fits (path_length bs) ≡ true
  pub stands : kind bs ≡ 4 → (eqb (link_state bs) 0 || eqb (link_state bs) 1) ≡ true

pub extent_least : (k l : ℕ) → 2 ≤ extent_by k l
extent_least k l = grind (arith, nat_tests)

pub sound : (bs : List ℕ) → fault bs ≡ None → Sound bs
sound bs e =
    let least = extent_least (kind bs) (path_length bs) in
    record {
      whole = grind (arith, nat_tests);
      known = grind (arith, nat_tests);
      fit = λ k. grind (arith, nat_tests);
      stands = λ k. grind (arith, nat_tests);
    }

kinds : (k : ℕ) → (eqb k 1 || eqb k 2 || eqb k 3 || eqb k 4) ≡ true → (k ≡ 1) ⊎ ((k ≡ 2) ⊎ ((k ≡ 3) ⊎ (k ≡ 4)))
kinds k e =
    ⊎_elim
    (λ f. ⊎_elim
    (λ g. ⊎_elim
    (λ h. inl (eqb-true k 1 h))
    (λ h. inr (inl (eqb-true k 2 h)))
    (or_cases (eqb k 1) (eqb k 2) g))
    (λ h. inr (inr (inl (eqb-true k 3 h))))
    (or_cases (eqb k 1 || eqb k 2) (eqb k 3) f))
    (λ h. inr (inr (inr (eqb-true k 4 h))))
    (or_cases (eqb k 1 || eqb k 2 || eqb k 3) (eqb k 4) e)

four : (bs : List ℕ) → 4 ≤ length bs → bs ≡ get_or bs 0 0 ∷ get_or bs 1 0 ∷ get_or bs 2 0 ∷ get_or bs 3 0 ∷ drop 4 bs
four [] h = absurd (omega arith)
four (a ∷ []) h = absurd (omega arith)
four (a ∷ b ∷ []) h = absurd (omega arith)
four (a ∷ b ∷ c ∷ []) h = absurd (omega arith)
four (a ∷ b ∷ c ∷ d ∷ rest) h = refl

five : (bs : List ℕ) → 5 ≤ length bs → bs ≡ get_or bs 0 0 ∷ get_or bs 1 0 ∷ get_or bs 2 0 ∷ get_or bs 3 0 ∷ get_or bs 4 0 ∷ drop 5 bs
five bs h = four bs (omega arith) ∙ (λ i. get_or bs 0 0 ∷ get_or bs 1 0 ∷ get_or bs 2 0 ∷ get_or bs 3 0 ∷ drop-cons bs 4 0 (omega arith) i)

seven : (bs : List ℕ) → 7 ≤ length bs → bs ≡ get_or bs 0 0 ∷ get_or bs 1 0 ∷ get_or bs 2 0 ∷ get_or bs 3 0 ∷ get_or bs 4 0 ∷ get_or bs 5 0 ∷ get_or bs 6 0 ∷ drop 7 bs
seven bs h =
    five bs (omega arith) ∙
    (λ i. get_or bs 0 0 ∷ get_or bs 1 0 ∷ get_or bs 2 0 ∷ get_or bs 3 0 ∷ get_or bs 4 0 ∷ drop-cons bs 5 0 (omega arith) i) ∙
    (λ i. get_or bs 0 0 ∷ get_or bs 1 0 ∷ get_or bs 2 0 ∷ get_or bs 3 0 ∷ get_or bs 4 0 ∷ get_or bs 5 0 ∷ drop-cons bs 6 0 (omega arith) i)

high : (h l : ℕ) → l < 256 → h ≡ (h * 256 + l) / 256
high h l low = omega arith

low : (h l : ℕ) → l < 256 → l ≡ (h * 256 + l) % 256
low h l small = omega arith

address_back : (a b c d : ℕ) → a < 256 → b < 256 → c < 256 → d < 256 → a ∷ b ∷ c ∷ d ∷ [] ≡ address_bytes (a * 16777216 + b * 65536 + c * 256 + d)
address_back a b c d p q r s =
    let w = a * 16777216 + b * 65536 + c * 256 + d in
    let e0 : a ≡ byte0 w = omega arith in
    let e1 : b ≡ byte1 w = omega arith in
    let e2 : c ≡ byte2 w = omega arith in
    let e3 : d ≡ byte3 w = omega arith in
    λ i. e0 i ∷ e1 i ∷ e2 i ∷ e3 i ∷ []

state_back : (s : ℕ) → (eqb s 0 || eqb s 1) ≡ true → s ≡ cond (eqb s 1) 1 0
state_back s e = grind (arith, nat_tests)

module _ (bs : List ℕ) (small : Bytes bs) (s : Sound bs) where
  abbrev Back : Type 0
  Back = bs ≡ bytes_of (message_in bs) ++ drop (extent bs) bs

  -- as a message of kind k
  abbrev BackBy : ℕ → Type 0
  BackBy k = bs ≡ bytes_of (record { network = network bs; thing = thing_by k bs }) ++ drop (extent_by k (path_length bs)) bs

  as_kind : (k : ℕ) → kind bs ≡ k → BackBy k → Back
  as_kind k e b = b ∙ (λ i. bytes_of (record { network = network bs; thing = thing_by (sym e i) bs }) ++ drop (extent_by (sym e i) (path_length bs)) bs)

  long : (k : ℕ) → kind bs ≡ k → extent_by k (path_length bs) ≤ length bs
  long k e = omega (arith, s.whole, ap (λ k. extent_by k (path_length bs)) e)

  way : kind bs ≡ 1 → BackBy 1
  way e =
      let k = path_length bs in
      let fit = s.fit e in
      let reach : way_extent k ≡ 5 + k = ap (λ b. 5 + cond b k 0) fit in
      let room : 5 + k ≤ length bs = omega (arith, long 1 e, reach) in
      let size : length (path bs) ≡ k = length-take-le k (drop 5 bs) (omega (arith, length-drop 5 bs)) in
      let behind : drop (way_extent k) bs ≡ drop k (drop 5 bs) = ap (λ n. drop n bs) reach ∙ sym (drop-drop k 5 bs) in
      let written : bytes_of (record { network = network bs; thing = thing_by 1 bs }) ≡ network bs ∷ 1 ∷ block bs / 256 ∷ block bs % 256 ∷ length (path bs) ∷ path bs = cond-true (fits (length (path bs))) _ _ (ap fits size ∙ fit) in
      five bs (omega arith) ∙
      (λ i. get_or bs 0 0 ∷ e i ∷ high (get_or bs 2 0) (get_or bs 3 0) (small 3) i ∷ low (get_or bs 2 0) (get_or bs 3 0) (small 3) i ∷ sym size i ∷ sym (take-append-drop k (drop 5 bs)) i) ∙
      (λ i. sym written i ++ sym behind i)

  withdrawal : kind bs ≡ 2 → BackBy 2
  withdrawal e =
      four bs (long 2 e) ∙
      (λ i. get_or bs 0 0 ∷ e i ∷ high (get_or bs 2 0) (get_or bs 3 0) (small 3) i ∷ low (get_or bs 2 0) (get_or bs 3 0) (small 3) i ∷ drop 4 bs)

  carried : kind bs ≡ 3 → BackBy 3
  carried e =
      seven bs (long 3 e) ∙
      (λ i. get_or bs 0 0 ∷ e i ∷ address_back (get_or bs 2 0) (get_or bs 3 0) (get_or bs 4 0) (get_or bs 5 0) (small 2) (small 3) (small 4) (small 5) i ++ get_or bs 6 0 ∷ drop 7 bs)

  turned : kind bs ≡ 4 → BackBy 4
  turned e =
      four bs (long 4 e) ∙
      (λ i. get_or bs 0 0 ∷ e i ∷ get_or bs 2 0 ∷ state_back (get_or bs 3 0) (s.stands e) i ∷ drop 4 bs)

  pub back : Back
  back = ⊎_elim (λ e. as_kind 1 e (way e)) (⊎_elim (λ e. as_kind 2 e (withdrawal e)) (⊎_elim (λ e. as_kind 3 e (carried e)) (λ e. as_kind 4 e (turned e)))) (kinds (kind bs) s.known)

  pub size_is : length (bytes_of (message_in bs)) ≡ extent bs
  size_is = omega (arith, ap length back, length-append (bytes_of (message_in bs)) (drop (extent bs) bs), length-drop (extent bs) bs, s.whole)

  -- as a message of kind k that has bytes
  written_by : (k : ℕ) → kind bs ≡ k → Written (record { network = network bs; thing = thing_by k bs }) → Written (message_in bs)
  written_by k e w = subst (λ k. Written (record { network = network bs; thing = thing_by k bs })) (sym e) w

  written_way : kind bs ≡ 1 → Written (record { network = network bs; thing = thing_by 1 bs })
  written_way e =
      let fit = s.fit e in
      let reach : way_extent (path_length bs) ≡ 5 + path_length bs = ap (λ b. 5 + cond b (path_length bs) 0) fit in
      let size : length (path bs) ≡ path_length bs = length-take-le (path_length bs) (drop 5 bs) (omega (arith, length-drop 5 bs, long 1 e, reach)) in
      record { has_bytes = ap fits size ∙ fit; addressed = tt }

  -- what is read has bytes
  pub read_written : Written (message_in bs)
  read_written =
      let small_address : address bs < 2 ^ 32 = omega (arith, small 2, small 3, small 4, small 5) in
      ⊎_elim
      (λ e. written_by 1 e (written_way e))
      (⊎_elim
      (λ e. written_by 2 e (record { has_bytes = refl; addressed = tt }))
      (⊎_elim
      (λ e. written_by 3 e (record { has_bytes = refl; addressed = small_address }))
      (λ e. written_by 4 e (record { has_bytes = refl; addressed = tt }))))
      (kinds (kind bs) s.known)
