-- What is read without a fault is the encoding of the relations that it says. Assumes nothing.
use Rattle.std.proofs.Common.{◌≡◌, ℕ, zero, suc, ◌+◌, ◌-◌, ◌*◌, ◌/◌, ◌%◌, ◌<◌, ◌≤◌, true, false, not, ◌&&◌, ◌||◌, eqb, ltb, ◌⊎◌, List, [], ◌∷◌, ◌++◌, length, get_or, take, drop, None, sym, refl, ap, ◌∙◌, inl, inr, ⊎_elim, append_assoc, arith, length-drop}
use Rattle.std.specs.List.{flat_map}
use Rattle.std.proofs.lemmas.List.{take_more, take_all, get_or-drop, flat_map_more, length_push}
use Rattle.std.proofs.lemmas.Bool.{cases_eq, eqb-true, leb-false, ltb-false, not-false, or_cases, cond-true, cond-false, lt-ltb, le-ltb}
use Rattle.std.proofs.lemmas.Bool.Decides.{nat_tests}
use Rattle.model.specs.Relations.{Between, opposite, related}
use Rattle.relations.specs.Between.{with_pair}
use Rattle.model.specs.declared.relation.Relation.{Relation}
use Rattle.model.specs.declared.relation.Relation.TheVariants.{Unrelated, Customer, Peer, Provider}
use Rattle.model.specs.Checks.{first_fault}
use Rattle.model.proofs.Checks.{none_holds}
use Rattle.ties.specs.File.{networks, ties, first, second, kind, after}
use Rattle.ties.specs.Kind.{meant}
use Rattle.ties.specs.Faults.{rises, tie_checks, head_checks, end_checks, same_pair, paired, comes_after, CleanTies, Faultless}
use Rattle.model.specs.Lists.{gather}
use Rattle.ties.specs.Encoding.{Listed, listed, listing, bytes_of, encoding}
use Rattle.ties.proofs.Progress.{related_paired}
use Rattle.model.proofs.Gathered.{gather_same, gather_add, gather_blank}

abbrev tie_in : List ℕ → ℕ → Listed
tie_in bs k = record { one = first bs k; other = second bs k; kind = kind bs k }

-- the first k ties as a list
abbrev ties_in : List ℕ → ℕ → List Listed
ties_in bs zero = []
ties_in bs (suc k) = ties_in bs k ++ (tie_in bs k ∷ [])

not_related : (r : Relation) → related r ≡ false → r ≡ Unrelated
not_related Unrelated e = refl
not_related Customer e = cc
not_related Peer e = cc
not_related Provider e = cc

pair_here : (r : Between) (a b : ℕ) (x : Relation) → with_pair r a b x a b ≡ x
pair_here r a b x = grind (arith, nat_tests)

pair_turned : (r : Between) (a b : ℕ) (x : Relation) → (a ≡ b → ⊥) → with_pair r a b x b a ≡ opposite x
pair_turned r a b x ne = grind (arith, nat_tests)

pair_other : (r : Between) (a b : ℕ) (x : Relation) (i j : ℕ) → ((i ≡ a) × (j ≡ b) → ⊥) → ((i ≡ b) × (j ≡ a) → ⊥) → with_pair r a b x i j ≡ r i j
pair_other r a b x i j p q = grind (arith, nat_tests)

-- a kind that is known, with peers in their order
abbrev pub Known : ℕ → ℕ → ℕ → Type 0
Known a b k = (k ≡ 1) ⊎ ((k ≡ 2) × (a < b))

listed_here : (a b k : ℕ) → Known a b k → listed (meant k) a b ≡ record { one = a; other = b; kind = k } ∷ []
listed_here a b k known =
    ⊎_elim
    (λ e. (λ i. listed (meant (e i)) a b) ∙ (λ i. record { one = a; other = b; kind = sym e i } ∷ []))
    (λ e. (λ i. listed (meant (e.0 i)) a b) ∙ cond-true (ltb a b) _ _ (lt-ltb a b e.1) ∙ (λ i. record { one = a; other = b; kind = sym e.0 i } ∷ []))
    known

listed_turned : (a b k : ℕ) → Known a b k → listed (opposite (meant k)) b a ≡ []
listed_turned a b k known =
    ⊎_elim
    (λ e. (λ i. listed (opposite (meant (e i))) b a))
    (λ e. (λ i. listed (opposite (meant (e.0 i))) b a) ∙ cond-false (ltb b a) _ _ (le-ltb b a (omega arith)))
    known

-- one tie more, that comes after all that are there
module _ (n : ℕ) (rel : Between) (a b k : ℕ)
    (known : Known a b k) (ha : a < n) (hb : b < n) (apart : a ≡ b → ⊥)
    (free : rel a b ≡ Unrelated) (free' : rel b a ≡ Unrelated)
    (blank : (i j : ℕ) → rises a b i j ≡ true → listed (rel i j) i j ≡ []) where
  elsewhere : (i j : ℕ) → ((i ≡ a) × (j ≡ b) → ⊥) → listed (with_pair rel a b (meant k) i j) i j ≡ listed (rel i j) i j
  elsewhere i j ne =
      ⊎_elim
      (λ e. ⊎_elim
      (λ f. (λ z. listed (with_pair rel a b (meant k) (e z) (f z)) (e z) (f z)) ∙ ap (λ x. listed x b a) (pair_turned rel a b (meant k) apart) ∙ listed_turned a b k known ∙ ap (λ x. listed x b a) (sym free') ∙ (λ z. listed (rel (sym e z) (sym f z)) (sym e z) (sym f z)))
      (λ f. ap (λ x. listed x i j) (pair_other rel a b (meant k) i j ne (λ h. f h.1)))
      (cases_eq j a))
      (λ e. ap (λ x. listed x i j) (pair_other rel a b (meant k) i j ne (λ h. e h.0)))
      (cases_eq i b)

  pub listing_more : listing n (with_pair rel a b (meant k)) ≡ listing n rel ++ (record { one = a; other = b; kind = k } ∷ [])
  listing_more =
      gather_add (λ i. gather (λ j. listed (rel i j) i j) n) (λ i. gather (λ j. listed (with_pair rel a b (meant k) i j) i j) n) a n _ ha
      (λ i ne. gather_same _ _ n (λ j h. elsewhere i j (λ e. ne e.0)))
      (gather_add (λ j. listed (rel a j) a j) (λ j. listed (with_pair rel a b (meant k) a j) a j) b n _ hb
      (λ j ne. elsewhere a j (λ e. ne e.1))
      (ap (λ x. listed x a b) (pair_here rel a b (meant k)) ∙ listed_here a b k known ∙ ap (λ x. listed x a b ++ (record { one = a; other = b; kind = k } ∷ [])) (sym free))
      (λ j h. blank a j (grind (arith, nat_tests))))
      (λ i h. gather_blank (λ j. listed (rel i j) i j) 0 n (omega arith) (λ j l. blank i j (grind (arith, nat_tests))))

-- what a tie with no fault is
record Sound (bs : List ℕ) (k : ℕ) : Type 0 where
  known : Known (first bs k) (second bs k) (kind bs k)
  one : first bs k < networks bs
  other : second bs k < networks bs
  apart : first bs k ≡ second bs k → ⊥
  rising : comes_after bs k (first bs k) (second bs k) ≡ true
  free : after bs k (first bs k) (second bs k) ≡ Unrelated
  free' : after bs k (second bs k) (first bs k) ≡ Unrelated
  whole : 4 + 3 * k + 2 < length bs

paired_turned : (bs : List ℕ) (a b k : ℕ) → paired bs a b k ≡ paired bs b a k
unfolding paired
paired_turned bs a b zero = refl
paired_turned bs a b (suc k) = let e = paired_turned bs a b k in let f : same_pair (first bs k) (second bs k) a b ≡ same_pair (first bs k) (second bs k) b a = grind (arith, nat_tests) in λ i. f i || e i

sound : (bs : List ℕ) (k : ℕ) → first_fault (tie_checks bs k) ≡ None → Sound bs k
sound bs k e =
    let no = none_holds (tie_checks bs k) e in
    let unknown = no.0 in
    let cut = no.1.0 in
    let beyond = no.1.1.0 in
    let order = no.1.1.1.0 in
    let twice = no.1.1.1.1.0 in
    let turned = no.1.1.1.1.1.0 in
    let itself = no.1.1.1.1.1.1.0 in
    let long : 4 + 3 * k + 2 < length bs = leb-false (length bs) (4 + 3 * k + 2) cut in
    let there : ltb (4 + 3 * k + 2) (length bs) ≡ true = lt-ltb (4 + 3 * k + 2) (length bs) long in
    record {
      known = kinds (kind bs k) (first bs k) (second bs k) (grind (arith, nat_tests)) turned itself;
      one = grind (arith, nat_tests);
      other = grind (arith, nat_tests);
      apart = grind (arith, nat_tests);
      rising = not-false (comes_after bs k (first bs k) (second bs k)) order;
      free = not_related _ (related_paired bs (first bs k) (second bs k) k ∙ twice);
      free' = not_related _ (related_paired bs (second bs k) (first bs k) k ∙ sym (paired_turned bs (first bs k) (second bs k) k) ∙ twice);
      whole = long;
    }
  where
    kinds : (k a b : ℕ) → (eqb k 1 || eqb k 2) ≡ true → (eqb k 2 && ltb b a) ≡ false → eqb a b ≡ false → Known a b k
    kinds k a b h t i = ⊎_elim (λ e. inl (eqb-true k 1 e)) (λ e. inr (eqb-true k 2 e, grind (arith, nat_tests))) (or_cases (eqb k 1) (eqb k 2) h)

after_trans : (bs : List ℕ) (k a b i j : ℕ) → comes_after bs k a b ≡ true → rises a b i j ≡ true → comes_after bs k i j ≡ true
after_trans bs zero a b i j p q = refl
after_trans bs (suc k) a b i j p q = grind (arith, nat_tests)

-- nothing is listed behind the last tie
blank_after : (bs : List ℕ) (k : ℕ) → CleanTies bs k → (i j : ℕ) → comes_after bs k i j ≡ true → listed (after bs k i j) i j ≡ []
unfolding after
blank_after bs zero clean i j h = refl
blank_after bs (suc k) clean i j h =
    let s = sound bs k (clean k (omega arith)) in
    let a = first bs k in
    let b = second bs k in
    let ne : (i ≡ a) × (j ≡ b) → ⊥ = λ e. grind (arith, nat_tests) in
    let before = blank_after bs k (λ m l. clean m (omega arith)) i j (after_trans bs k a b i j s.rising h) in
    ⊎_elim
    (λ e. ⊎_elim
    (λ f. (λ z. listed (with_pair (after bs k) a b (meant (kind bs k)) (e z) (f z)) (e z) (f z)) ∙ ap (λ x. listed x b a) (pair_turned (after bs k) a b (meant (kind bs k)) s.apart) ∙ listed_turned a b (kind bs k) s.known)
    (λ f. ap (λ x. listed x i j) (pair_other (after bs k) a b (meant (kind bs k)) i j ne (λ h. f h.1)) ∙ before)
    (cases_eq j a))
    (λ e. ap (λ x. listed x i j) (pair_other (after bs k) a b (meant (kind bs k)) i j ne (λ h. e h.0)) ∙ before)
    (cases_eq i b)

listing_is : (bs : List ℕ) (k : ℕ) → CleanTies bs k → listing (networks bs) (after bs k) ≡ ties_in bs k
unfolding after
listing_is bs zero clean = gather_blank (λ i. gather (λ j. []) (networks bs)) 0 (networks bs) (omega arith) (λ i h. gather_blank (λ j. []) 0 (networks bs) (omega arith) (λ j l. refl))
listing_is bs (suc k) clean =
    let s = sound bs k (clean k (omega arith)) in
    let fewer : CleanTies bs k = λ m l. clean m (omega arith) in
    listing_more (networks bs) (after bs k) (first bs k) (second bs k) (kind bs k) s.known s.one s.other s.apart s.free s.free'
    (λ i j h. blank_after bs k fewer i j (after_trans bs k (first bs k) (second bs k) i j s.rising h)) ∙
    ap (λ l. l ++ (tie_in bs k ∷ [])) (listing_is bs k fewer)

length_ties : (bs : List ℕ) (k : ℕ) → length (ties_in bs k) ≡ k
length_ties bs zero = refl
length_ties bs (suc k) = omega (arith, length_push (ties_in bs k) (tie_in bs k), length_ties bs k)

three_more : (l : List ℕ) (m : ℕ) → m + 3 ≤ length l → take (m + 3) l ≡ take m l ++ (get_or l m 0 ∷ get_or l (m + 1) 0 ∷ get_or l (m + 2) 0 ∷ [])
three_more l m h =
    let x = get_or l m 0 in
    let y = get_or l (m + 1) 0 in
    let z = get_or l (m + 2) 0 in
    let one : m + 1 + 1 ≡ m + 2 = omega arith in
    let two : m + 3 ≡ m + 2 + 1 = omega arith in
    ap (λ k. take k l) two ∙
    take_more l (m + 2) 0 (omega arith) ∙
    ap (λ t. t ++ (z ∷ [])) (ap (λ k. take k l) (sym one) ∙ take_more l (m + 1) 0 (omega arith) ∙ ap (λ t. t ++ (y ∷ [])) (take_more l m 0 (omega arith))) ∙
    append_assoc (take m l ++ (x ∷ [])) (y ∷ []) (z ∷ []) ∙
    append_assoc (take m l) (x ∷ []) (y ∷ z ∷ [])

bytes_are : (bs : List ℕ) (k : ℕ) → 4 + 3 * k ≤ length bs → flat_map bytes_of (ties_in bs k) ≡ take (3 * k) (drop 4 bs)
bytes_are bs zero h = refl
bytes_are bs (suc k) h =
    let tail = drop 4 bs in
    let long : length tail ≡ length bs - 4 = length-drop 4 bs in
    let next : 3 * suc k ≡ 3 * k + 3 = omega arith in
    let one : get_or tail (3 * k) 0 ≡ first bs k = get_or-drop 4 bs (3 * k) 0 in
    let two : get_or tail (3 * k + 1) 0 ≡ second bs k = get_or-drop 4 bs (3 * k + 1) 0 ∙ ap (λ i. get_or bs i 0) (omega arith) in
    let three : get_or tail (3 * k + 2) 0 ≡ kind bs k = get_or-drop 4 bs (3 * k + 2) 0 ∙ ap (λ i. get_or bs i 0) (omega arith) in
    sym (flat_map_more bytes_of [] (ties_in bs k) (tie_in bs k)) ∙
    (λ i. bytes_are bs k (omega arith) i ++ (sym one i ∷ sym two i ∷ sym three i ∷ [])) ∙
    sym (ap (λ m. take m tail) next ∙ three_more tail (3 * k) (omega arith))

front : (bs : List ℕ) → 4 ≤ length bs → bs ≡ get_or bs 0 0 ∷ get_or bs 1 0 ∷ get_or bs 2 0 ∷ get_or bs 3 0 ∷ drop 4 bs
front [] h = absurd (omega arith)
front (a ∷ []) h = absurd (omega arith)
front (a ∷ b ∷ []) h = absurd (omega arith)
front (a ∷ b ∷ c ∷ []) h = absurd (omega arith)
front (a ∷ b ∷ c ∷ d ∷ bs) h = refl

long_enough : (bs : List ℕ) (k : ℕ) → 4 ≤ length bs → CleanTies bs k → 4 + 3 * k ≤ length bs
long_enough bs zero h clean = h
long_enough bs (suc k) h clean = omega (arith, (sound bs k (clean k (omega arith))).whole)

head_is : (most : ℕ) (bs : List ℕ) → first_fault (head_checks most bs) ≡ None → (4 ≤ length bs) × (get_or bs 0 0 ≡ 16)
head_is most bs e =
    let unknown = (none_holds (head_checks most bs) e).0 in
    let four : 4 ≤ length bs = ltb-false (length bs) 4 (none_holds (head_checks most bs) e).1.0 in
    (four, kind_is bs four unknown)
  where
    kind_is : (bs : List ℕ) → 4 ≤ length bs → (ltb 0 (length bs) && not (eqb (get_or bs 0 0) 16)) ≡ false → get_or bs 0 0 ≡ 16
    kind_is bs h e = grind (arith, nat_tests)

high : (h l k : ℕ) → l < 256 → k ≡ h * 256 + l → h ≡ k / 256
high h l k low e = omega arith

low : (h l k : ℕ) → l < 256 → k ≡ h * 256 + l → l ≡ k % 256
low h l k small e = omega arith

pub read_encodes : (most : ℕ) (bs : List ℕ) → get_or bs 3 0 < 256 → Faultless most bs → bs ≡ encoding (networks bs) (after bs (ties bs))
read_encodes most bs small f =
    let k = ties bs in
    let head = head_is most bs f.head in
    let most_long : length bs ≤ 4 + 3 * k = ltb-false (4 + 3 * k) (length bs) (none_holds (end_checks bs) f.end).0 in
    let long = long_enough bs k head.0 f.each in
    let list = listing_is bs k f.each in
    let count : length (listing (networks bs) (after bs k)) ≡ k = ap length list ∙ length_ties bs k in
    let tail : flat_map bytes_of (listing (networks bs) (after bs k)) ≡ drop 4 bs = ap (flat_map bytes_of) list ∙ bytes_are bs k long ∙ take_all (3 * k) (drop 4 bs) (omega (arith, length-drop 4 bs)) in
    front bs head.0 ∙
    (λ i. head.1 i ∷ networks bs ∷ high (get_or bs 2 0) (get_or bs 3 0) _ small count i ∷ low (get_or bs 2 0) (get_or bs 3 0) _ small count i ∷ sym tail i)
