-- The encoding of relations in which both ends say the same reads back without a fault, as the same relations. Assumes nothing.
use Rattle.std.proofs.Common.{◌≡◌, ℕ, zero, suc, ◌+◌, ◌*◌, ◌<◌, ◌≤◌, Bool, true, false, cond, not, ◌&&◌, ◌||◌, eqb, ltb, List, [], ◌∷◌, ◌++◌, length, get_or, drop, None, sym, refl, ap, ◌∙◌, subst, inl, inr, ⊎_elim, arith}
use Rattle.std.specs.List.{flat_map, AllByRecursion}
use Rattle.std.proofs.lemmas.List.{get_or-drop, drop_more}
use Rattle.std.proofs.lemmas.Bool.{cases_lt, cases_order, cond_both, ltb-true, lt-leb, le-ltb, or_right, or_left, or_from, cond-true, lt-ltb, ne_eqb, and_right}
use Rattle.std.proofs.lemmas.Bool.Decides.{nat_tests}
use Rattle.model.specs.Relations.{Between, Mutual, Apart, Within, opposite}
use Rattle.relations.specs.Between.{with_pair}
use Rattle.model.specs.declared.relation.Relation.{Relation}
use Rattle.model.specs.declared.relation.Relation.TheVariants.{Unrelated, Customer, Peer, Provider}
use Rattle.model.specs.Checks.{first_fault}
use Rattle.model.proofs.Checks.{none_told}
use Rattle.model.specs.declared.limits.TheConstants.{MOST_NETWORKS as MOST}
use Rattle.ties.specs.File.{ties, first, second, kind, after}
use Rattle.ties.specs.Kind.{is_kind, meant}
use Rattle.ties.specs.Faults.{rises, tie_checks, head_checks, end_checks, same_pair, paired, comes_after, Faultless}
use Rattle.model.specs.Lists.{gather}
use Rattle.ties.specs.Encoding.{Listed, listed, listing, bytes_of, encoding}
use Rattle.std.proofs.ByRecursion.{All-append, All-get_or, All-weaker}
use Rattle.model.proofs.Gathered.{gather_all, gather_at}
use Rattle.ties.proofs.Written.{length_bytes}
use Rattle.ties.proofs.Decoded.{Known}

-- the tie that stands for none
abbrev blank : Listed
blank = record { one = 0; other = 0; kind = 0 }

abbrev Before : Listed → Listed → Type 0
Before t u = rises t.one t.other u.one u.other ≡ true

abbrev Rising : List Listed → Type 0
Rising [] = Unit {0}
Rising (t ∷ ts) = AllByRecursion (Before t) ts × Rising ts

rising_append : (xs ys : List Listed) → Rising xs → Rising ys → AllByRecursion (λ x. AllByRecursion (Before x) ys) xs → Rising (xs ++ ys)
rising_append [] ys a b c = b
rising_append (x ∷ xs) ys a b c = (All-append (Before x) xs ys a.0 c.0, rising_append xs ys a.1 b c.1)

all_cross : (P Q : Listed → Type 0) (xs ys : List Listed) → ((x y : Listed) → P x → Q y → Before x y) → AllByRecursion P xs → AllByRecursion Q ys → AllByRecursion (λ x. AllByRecursion (Before x) ys) xs
all_cross P Q [] ys h a b = tt
all_cross P Q (x ∷ xs) ys h a b = (All-weaker Q (Before x) (λ y. h x y a.0) ys b, all_cross P Q xs ys h a.1 b)

rising_at : (ts : List Listed) (m k : ℕ) → Rising ts → m < k → k < length ts → Before (get_or ts m blank) (get_or ts k blank)
rising_at [] m k r l h = absurd (omega arith)
rising_at (t ∷ ts) m zero r l h = absurd (omega arith)
rising_at (t ∷ ts) zero (suc k) r l h = All-get_or (Before t) ts k blank (omega arith) r.0
rising_at (t ∷ ts) (suc m) (suc k) r l h = rising_at ts m k r.1 (omega arith) (omega arith)

abbrev At : ℕ → ℕ → Listed → Type 0
At i j t = (t.one ≡ i) × (t.other ≡ j)

cell_at : (r : Relation) (i j : ℕ) → AllByRecursion (At i j) (listed r i j) × Rising (listed r i j)
cell_at Unrelated i j = (tt, tt)
cell_at Customer i j = (tt, tt)
cell_at Peer i j = cond_both (ltb i j) _ _ (λ l. AllByRecursion (At i j) l × Rising l) (λ _. (((refl, refl), tt), (tt, tt))) (λ _. (tt, tt))
cell_at Provider i j = (((refl, refl), tt), (tt, tt))

row_rising : (rel : Between) (i m : ℕ) → Rising (gather (λ j. listed (rel i j) i j) m) × AllByRecursion (λ t. (t.one ≡ i) × (t.other < m)) (gather (λ j. listed (rel i j) i j) m)
row_rising rel i zero = (tt, tt)
row_rising rel i (suc m) =
    let before = row_rising rel i m in
    let cell = cell_at (rel i m) i m in (
      rising_append _ _ before.0 cell.1 (all_cross _ _ _ _ (λ x y p q. grind (arith, nat_tests)) before.1 cell.0),
      All-append _ _ _ (All-weaker _ _ (λ x p. (p.0, omega (arith, p.1))) _ before.1) (All-weaker _ _ (λ x p. (p.0, omega (arith, p.1))) _ cell.0),
    )

rows_rising : (rel : Between) (n m : ℕ) → Rising (gather (λ i. gather (λ j. listed (rel i j) i j) n) m) × AllByRecursion (λ t. t.one < m) (gather (λ i. gather (λ j. listed (rel i j) i j) n) m)
rows_rising rel n zero = (tt, tt)
rows_rising rel n (suc m) =
    let before = rows_rising rel n m in
    let row = row_rising rel m n in (
      rising_append _ _ before.0 row.0 (all_cross _ _ _ _ (λ x y p q. grind (arith, nat_tests)) before.1 row.1),
      All-append _ _ _ (All-weaker _ _ (λ x p. omega (arith, p)) _ before.1) (All-weaker _ _ (λ x p. omega (arith, p.0)) _ row.1),
    )

-- the bytes of a tie in the file
drop_bytes : (ts : List Listed) (k : ℕ) → drop (3 * k) (flat_map bytes_of ts) ≡ flat_map bytes_of (drop k ts)
drop_bytes ts zero = refl
drop_bytes [] (suc k) = let e : 3 * suc k ≡ suc (suc (suc (3 * k))) = omega arith in ap (λ m. drop m (flat_map bytes_of [])) e
drop_bytes (t ∷ ts) (suc k) = let e : 3 * suc k ≡ suc (suc (suc (3 * k))) = omega arith in ap (λ m. drop m (flat_map bytes_of (t ∷ ts))) e ∙ drop_bytes ts k

byte_at : (ts : List Listed) (k c : ℕ) → k < length ts → get_or (flat_map bytes_of ts) (3 * k + c) 0 ≡ get_or (bytes_of (get_or ts k blank) ++ flat_map bytes_of (drop (k + 1) ts)) c 0
byte_at ts k c h = sym (get_or-drop (3 * k) (flat_map bytes_of ts) c 0) ∙ ap (λ l. get_or l c 0) (drop_bytes ts k ∙ ap (flat_map bytes_of) (drop_more ts k blank h))

-- a tie that stands for what the relations say
record Good (n : ℕ) (rel : Between) (t : Listed) : Type 0 where
  one : t.one < n
  other : t.other < n
  means : meant t.kind ≡ rel t.one t.other
  known : Known t.one t.other t.kind

cell_good : (n : ℕ) (rel : Between) (i j : ℕ) (r : Relation) → i < n → j < n → rel i j ≡ r → AllByRecursion (Good n rel) (listed r i j)
cell_good n rel i j Unrelated hi hj e = tt
cell_good n rel i j Customer hi hj e = tt
cell_good n rel i j Peer hi hj e =
    cond_both (ltb i j) _ _ (AllByRecursion (Good n rel)) (λ l. (record { one = hi; other = hj; means = sym e; known = inr (refl, ltb-true i j l) }, tt)) (λ _. tt)
cell_good n rel i j Provider hi hj e = (record { one = hi; other = hj; means = sym e; known = inl refl }, tt)

module _ (n : ℕ) (rel : Between) («mutual» : Mutual rel) (apart : Apart rel) (within : Within n rel) where
  abbrev all_ties : List Listed
  all_ties = listing n rel

  all_good : AllByRecursion (Good n rel) all_ties
  all_good = gather_all _ _ n (λ i hi. gather_all _ _ n (λ j hj. cell_good n rel i j (rel i j) hi hj refl))

  good_at : (k : ℕ) → k < length all_ties → Good n rel (get_or all_ties k blank)
  good_at k h = All-get_or (Good n rel) all_ties k blank h all_good

  not_itself : (t : Listed) → Good n rel t → t.one ≡ t.other → ⊥
  not_itself t g e =
      let free : rel t.one t.other ≡ Unrelated = ap (λ z. rel t.one z) (sym e) ∙ apart t.one in
      ⊎_elim
      (λ k. let z : ◌≡◌ {A = ℕ} 0 1 = cc (ap meant k, g.means, free) in omega arith)
      (λ k. let z : ◌≡◌ {A = ℕ} 0 1 = cc (ap meant k.0, g.means, free) in omega arith)
      g.known

  not_turned : (t u : Listed) → Good n rel t → Good n rel u → t.one ≡ u.other → t.other ≡ u.one → ⊥
  not_turned t u g h e f =
      let back : rel u.one u.other ≡ opposite (meant t.kind) = (λ z. rel (sym f z) (sym e z)) ∙ «mutual» t.one t.other ∙ ap opposite (sym g.means) in
      let said : meant u.kind ≡ opposite (meant t.kind) = h.means ∙ back in
      ⊎_elim
      (λ k. ⊎_elim
      (λ l. let z : ◌≡◌ {A = ℕ} 0 1 = cc (ap meant l, said) in omega arith)
      (λ l. let z : ◌≡◌ {A = ℕ} 0 1 = cc (ap meant l.0, said) in omega arith)
      h.known)
      (λ k. ⊎_elim
      (λ l. let z : ◌≡◌ {A = ℕ} 0 1 = cc (ap meant l, ap (λ v. opposite (meant v)) k.0, said) in omega arith)
      (λ l. omega (arith, k.1, l.1))
      h.known)
      g.known

  abbrev file : List ℕ
  file = encoding n rel

  count_is : ties file ≡ length all_ties
  count_is = omega arith

  past_head : (m : ℕ) → get_or file (4 + m) 0 ≡ get_or (flat_map bytes_of all_ties) m 0
  past_head m = sym (get_or-drop 4 file m 0)

  length_is : length file ≡ 4 + 3 * length all_ties
  length_is = omega (arith, length_bytes all_ties)

  module _ (k : ℕ) (h : k < length all_ties) where
    first_is : first file k ≡ (get_or all_ties k blank).one
    first_is = let e : 3 * k ≡ 3 * k + 0 = omega arith in past_head (3 * k) ∙ ap (λ m. get_or (flat_map bytes_of all_ties) m 0) e ∙ byte_at all_ties k 0 h

    second_is : second file k ≡ (get_or all_ties k blank).other
    second_is = let e : 4 + 3 * k + 1 ≡ 4 + (3 * k + 1) = omega arith in ap (λ m. get_or file m 0) e ∙ past_head (3 * k + 1) ∙ byte_at all_ties k 1 h

    kind_is : kind file k ≡ (get_or all_ties k blank).kind
    kind_is = let e : 4 + 3 * k + 2 ≡ 4 + (3 * k + 2) = omega arith in ap (λ m. get_or file m 0) e ∙ past_head (3 * k + 2) ∙ byte_at all_ties k 2 h

    good_file : Good n rel (record { one = first file k; other = second file k; kind = kind file k })
    good_file = subst (Good n rel) (λ i. record { one = sym first_is i; other = sym second_is i; kind = sym kind_is i }) (good_at k h)

  rising_file : (m k : ℕ) → m < k → k < length all_ties → rises (first file m) (second file m) (first file k) (second file k) ≡ true
  rising_file m k l h = let hm : m < length all_ties = omega arith in (λ i. rises (first_is m hm i) (second_is m hm i) (first_is k h i) (second_is k h i)) ∙ rising_at all_ties m k (rows_rising rel n n).0 l h

  apart_pairs : (m k : ℕ) → m < k → k < length all_ties → same_pair (first file m) (second file m) (first file k) (second file k) ≡ false
  apart_pairs m k l h =
      let up = rising_file m k l h in
      let turned = not_turned _ _ (good_file m (omega arith)) (good_file k h) in
      none (first file m) (second file m) (first file k) (second file k) up turned
    where
      none : (a b c d : ℕ) → rises a b c d ≡ true → (a ≡ d → b ≡ c → ⊥) → same_pair a b c d ≡ false
      none a b c d p q = grind (arith, nat_tests)

  not_paired : (k q : ℕ) → q ≤ k → k < length all_ties → paired file (first file k) (second file k) q ≡ false
  unfolding paired
  not_paired k zero l h = refl
  not_paired k (suc q) l h = or_from _ _ (apart_pairs q k (omega arith) h) (not_paired k q (omega arith) h)

  in_order : (k : ℕ) → k < length all_ties → comes_after file k (first file k) (second file k) ≡ true
  in_order zero h = refl
  in_order (suc k) h = rising_file k (suc k) (omega arith) h

  faultless_tie : (k : ℕ) → k < length all_ties → first_fault (tie_checks file k) ≡ None
  faultless_tie k h =
      let g = good_file k h in
      none_told (tie_checks file k) (
        known_kind g.known,
        (
          lt-leb (length file) (4 + 3 * k + 2) (omega (arith, length_is)),
          (
            or_from _ _ (lt-leb n (first file k) g.one) (lt-leb n (second file k) g.other),
            (
              ap not (in_order k h),
              (
                not_paired k k (omega arith) h,
                (
                  peers (first file k) (second file k) (kind file k) g.known,
                  (
                    ne_eqb (first file k) (second file k) (not_itself _ g),
                    tt,
                  ),
                ),
              ),
            ),
          ),
        ),
      )
    where
      known_kind : Known (first file k) (second file k) (kind file k) → (ltb (4 + 3 * k + 2) (length file) && not (is_kind (kind file k))) ≡ false
      known_kind x = ⊎_elim (λ e. grind (arith, nat_tests)) (λ e. grind (arith, nat_tests)) x

      peers : (a b k : ℕ) → Known a b k → (eqb k 2 && ltb b a) ≡ false
      peers a b k x = ⊎_elim (λ e. grind (arith, nat_tests)) (λ e. grind (arith, nat_tests)) x

  -- what the first k ties say is what the relations say, of the pairs that they name
  after_is : (k : ℕ) → k ≤ length all_ties → (i j : ℕ) → after file k i j ≡ cond (paired file i j k) (rel i j) Unrelated
  unfolding after paired
  after_is zero h i j = refl
  after_is (suc k) h i j =
      let g = good_file k (omega arith) in
      one_more (after file k) (first file k) (second file k) (meant (kind file k)) i j (paired file i j k) g.means (ap opposite g.means ∙ sym («mutual» (first file k) (second file k))) (after_is k (omega arith) i j)
    where
      one_more : (r : Between) (a b : ℕ) (x : Relation) (i j : ℕ) (p : Bool) → x ≡ rel a b → opposite x ≡ rel b a → r i j ≡ cond p (rel i j) Unrelated → with_pair r a b x i j ≡ cond (same_pair a b i j || p) (rel i j) Unrelated
      one_more r a b x i j p e f h = grind (arith, nat_tests)

  paired_by : (i j k m : ℕ) → k < m → same_pair (first file k) (second file k) i j ≡ true → paired file i j m ≡ true
  unfolding paired
  paired_by i j k zero l e = absurd (omega arith)
  paired_by i j k (suc m) l e =
      ⊎_elim
      (λ below. or_right _ _ (paired_by i j k m below e))
      (λ above. let is : k ≡ m = omega arith in or_left _ _ (ap (λ z. same_pair (first file z) (second file z) i j) (sym is) ∙ e))
      (cases_lt k m)

  -- what is listed of a pair stands in the file
  in_file : (i j : ℕ) (t : Listed) → i < n → j < n → listed (rel i j) i j ≡ t ∷ [] → (k : ℕ) × (k < length all_ties) × (get_or all_ties k blank ≡ t)
  in_file i j t hi hj e =
      let cell = gather_at (λ j. listed (rel i j) i j) n j 0 blank hj (omega (arith, ap length e)) in
      let row = gather_at (λ i. gather (λ j. listed (rel i j) i j) n) n i cell.0 blank hi cell.1 in
      (row.0, row.1, row.2 ∙ cell.2 ∙ ap (λ l. get_or l 0 blank) e)

  paired_listed : (i j : ℕ) (t : Listed) → i < n → j < n → listed (rel i j) i j ≡ t ∷ [] → t.one ≡ i → t.other ≡ j → (a b : ℕ) → same_pair i j a b ≡ true → paired file a b (length all_ties) ≡ true
  paired_listed i j t hi hj e p q a b s =
      let r = in_file i j t hi hj e in
      paired_by a b r.0 (length all_ties) r.1
      ((λ z. same_pair ((first_is r.0 r.1 ∙ ap (λ u. u.one) r.2 ∙ p) z) ((second_is r.0 r.1 ∙ ap (λ u. u.other) r.2 ∙ q) z) a b) ∙ s)

  below : (i j : ℕ) (r : Relation) → rel i j ≡ r → (r ≡ Unrelated → ⊥) → i < n
  below i j r e ne = ⊎_elim (λ h. h) (λ h. absurd (ne (sym e ∙ within i j h))) (cases_lt i n)

  -- a pair that is related is named by a tie
  paired_related : (i j : ℕ) (r : Relation) → rel i j ≡ r → (r ≡ Unrelated → ⊥) → paired file i j (length all_ties) ≡ true
  paired_related i j Unrelated e ne = absurd (ne refl)
  paired_related i j Customer e ne =
      let back : rel j i ≡ Provider = «mutual» i j ∙ ap opposite e in
      let hi = below i j Customer e ne in
      let hj = below j i Provider back (λ x. let z : ◌≡◌ {A = ℕ} 0 1 = cc in omega arith) in
      paired_listed j i _ hj hi (ap (λ r. listed r j i) back) refl refl i j (grind (arith, nat_tests))
  paired_related i j Peer e ne =
      let back : rel j i ≡ Peer = «mutual» i j ∙ ap opposite e in
      let hi = below i j Peer e ne in
      let hj = below j i Peer back ne in
      ⊎_elim
      (λ same. absurd (ne (sym e ∙ ap (λ z. rel i z) (sym same) ∙ apart i)))
      (⊎_elim
      (λ l. paired_listed i j _ hi hj (ap (λ r. listed r i j) e ∙ cond-true (ltb i j) _ _ (lt-ltb i j l)) refl refl i j (grind (arith, nat_tests)))
      (λ l. paired_listed j i _ hj hi (ap (λ r. listed r j i) back ∙ cond-true (ltb j i) _ _ (lt-ltb j i l)) refl refl i j (grind (arith, nat_tests))))
      (cases_order i j)
  paired_related i j Provider e ne =
      let back : rel j i ≡ Customer = «mutual» i j ∙ ap opposite e in
      let hi = below i j Provider e ne in
      let hj = below j i Customer back (λ x. let z : ◌≡◌ {A = ℕ} 0 1 = cc in omega arith) in
      paired_listed i j _ hi hj (ap (λ r. listed r i j) e) refl refl i j (grind (arith, nat_tests))

  says_again : (i j : ℕ) (r : Relation) → rel i j ≡ r → after file (length all_ties) i j ≡ rel i j
  says_again i j Unrelated e = after_is (length all_ties) (omega arith) i j ∙ cond_both (paired file i j (length all_ties)) (rel i j) Unrelated (λ x. x ≡ rel i j) (λ _. refl) (λ _. sym e)
  says_again i j Customer e = after_is (length all_ties) (omega arith) i j ∙ cond-true (paired file i j (length all_ties)) _ _ (paired_related i j Customer e (λ x. let z : ◌≡◌ {A = ℕ} 0 1 = cc in omega arith))
  says_again i j Peer e = after_is (length all_ties) (omega arith) i j ∙ cond-true (paired file i j (length all_ties)) _ _ (paired_related i j Peer e (λ x. let z : ◌≡◌ {A = ℕ} 0 1 = cc in omega arith))
  says_again i j Provider e = after_is (length all_ties) (omega arith) i j ∙ cond-true (paired file i j (length all_ties)) _ _ (paired_related i j Provider e (λ x. let z : ◌≡◌ {A = ℕ} 0 1 = cc in omega arith))

  pub encoded_says : (i j : ℕ) → after file (ties file) i j ≡ rel i j
  encoded_says i j = ap (λ k. after file k i j) count_is ∙ says_again i j (rel i j) refl

  pub encoded_faultless : (most : ℕ) → 0 < n → n ≤ MOST → n ≤ most → Faultless most file
  encoded_faultless most some few allowed = record {
    head = none_told (head_checks most file) (
      and_right (ltb 0 (length file)) false refl,
      (
        le-ltb (length file) 4 (omega (arith, length_is)),
        (
          count_fits,
          (
            le-ltb most n allowed,
            tt,
          ),
        ),
      ),
    );
    each = λ m h. faultless_tie m (omega (arith, count_is));
    end = none_told (end_checks file) (le-ltb (4 + 3 * ties file) (length file) (omega (arith, length_is, count_is)), tt);
  }
    where
      count_fits : (eqb n 0 || ltb MOST n) ≡ false
      count_fits = grind (arith, nat_tests)
