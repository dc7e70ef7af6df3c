-- The encoding of blocks in order reads back without a fault, as the same blocks. Assumes nothing.
use Rattle.std.proofs.Common.{◌≡◌, ℕ, zero, suc, ◌+◌, ◌*◌, ◌^◌, ◌<◌, ◌≤◌, true, false, List, [], ◌∷◌, ◌++◌, length, get_or, take, None, sym, refl, ap, ◌∙◌, ⊎_elim, arith, length-append}
use Rattle.std.proofs.lemmas.List.{get_or_append_left, get_or-append-add, take_more, take_all}
use Rattle.std.proofs.lemmas.Bool.{cases_lt, lt-ltb}
use Rattle.std.proofs.lemmas.Bool.Decides.{nat_tests}
use Rattle.text.specs.Dotted.{byte0, byte1, byte2, byte3}
use Rattle.blocks.proofs.Apart.{ends_before}
use Rattle.model.specs.Checks.{first_fault}
use Rattle.blocks.specs.Encoding.{bytes_of, listing, encoding}
use Rattle.blocks.specs.File.{count, first, last, home, each}
use Rattle.blocks.specs.Faults.{rises, overlapped, head_checks, end_checks, block_checks, Faultless}
use Rattle.blocks.specs.Laws.{Proper, EncodedReads}
use Rattle.blocks.proofs.Overlaps.{none_overlapped}

joined : (a : ℕ) → a < 2 ^ 32 → byte0 a * 16777216 + byte1 a * 65536 + byte2 a * 256 + byte3 a ≡ a
joined a h = omega arith

each_is : (said : ℕ → ℕ) (xs : List ℕ) (k : ℕ) → k ≤ length xs → ((j : ℕ) → j < k → said j ≡ get_or xs j 0) → each said k ≡ take k xs
unfolding each
each_is said xs zero h same = refl
each_is said xs (suc k) h same =
    let next : suc k ≡ k + 1 = omega arith in
    (λ i. each_is said xs k (omega arith) (λ j l. same j (omega arith)) i ++ same k (omega arith) i ∷ []) ∙
    sym (ap (λ m. take m xs) next ∙ take_more xs k 0 (omega arith))

module _ (f l h : List ℕ) where
  length_listing : (k : ℕ) → length (listing f l h k) ≡ 9 * k
  unfolding listing
  length_listing zero = refl
  length_listing (suc k) = omega (arith, length-append (listing f l h k) (bytes_of (get_or f k 0) (get_or l k 0) (get_or h k 0)), length_listing k)

  listing_at : (m k j : ℕ) → k < m → j < 9 → get_or (listing f l h m) (9 * k + j) 0 ≡ get_or (bytes_of (get_or f k 0) (get_or l k 0) (get_or h k 0)) j 0
  unfolding listing
  listing_at zero k j p q = absurd (omega arith)
  listing_at (suc m) k j p q = ⊎_elim
      (λ below. get_or_append_left (listing f l h m) _ 0 (9 * k + j) (omega (arith, length_listing m)) ∙ listing_at m k j below q)
      (λ above.
      let same : k ≡ m = omega arith in
      let at : 9 * k + j ≡ length (listing f l h m) + j = omega (arith, length_listing m) in
      ap (λ i. get_or (listing f l h (suc m)) i 0) at ∙
      get_or-append-add (listing f l h m) _ j 0 ∙
      ap (λ i. get_or (bytes_of (get_or f i 0) (get_or l i 0) (get_or h i 0)) j 0) (sym same))
      (cases_lt k m)

  abbrev file : List ℕ
  file = encoding f l h

  length_file : length file ≡ 3 + 9 * length f
  length_file = omega (arith, length_listing (length f))

  count_is : count file ≡ length f
  count_is = omega arith

  file_at : (k j i : ℕ) → k < length f → j < 9 → i ≡ 3 + 9 * k + j → get_or file i 0 ≡ get_or (bytes_of (get_or f k 0) (get_or l k 0) (get_or h k 0)) j 0
  file_at k j i p q e =
      let at : i ≡ suc (suc (suc (9 * k + j))) = omega arith in
      ap (λ m. get_or file m 0) at ∙ listing_at (length f) k j p q

  first_is : (k : ℕ) → k < length f → get_or f k 0 < 2 ^ 32 → first file k ≡ get_or f k 0
  first_is k p short =
      (λ i. file_at k 0 (3 + 9 * k) p (omega arith) (omega arith) i * 16777216 + file_at k 1 (3 + 9 * k + 1) p (omega arith) (omega arith) i * 65536 + file_at k 2 (3 + 9 * k + 2) p (omega arith) (omega arith) i * 256 + file_at k 3 (3 + 9 * k + 3) p (omega arith) (omega arith) i) ∙
      joined (get_or f k 0) short

  last_is : (k : ℕ) → k < length f → get_or l k 0 < 2 ^ 32 → last file k ≡ get_or l k 0
  last_is k p short =
      (λ i. file_at k 4 (3 + 9 * k + 4) p (omega arith) (omega arith) i * 16777216 + file_at k 5 (3 + 9 * k + 4 + 1) p (omega arith) (omega arith) i * 65536 + file_at k 6 (3 + 9 * k + 4 + 2) p (omega arith) (omega arith) i * 256 + file_at k 7 (3 + 9 * k + 4 + 3) p (omega arith) (omega arith) i) ∙
      joined (get_or l k 0) short

  home_is : (k : ℕ) → k < length f → home file k ≡ get_or h k 0
  home_is k p = file_at k 8 (3 + 9 * k + 8) p (omega arith) (omega arith)

module _ (n : ℕ) (f l h : List ℕ) (p : Proper n f l h) where
  first_in : (k : ℕ) → k < length f → first (file f l h) k ≡ get_or f k 0
  first_in k q = first_is f l h k q (omega (arith, p.orderly.each k q, p.short k q))

  last_in : (k : ℕ) → k < length f → last (file f l h) k ≡ get_or l k 0
  last_in k q = last_is f l h k q (p.short k q)

  above : (k : ℕ) → k < length f → rises (file f l h) k ≡ true
  above zero q = refl
  above (suc k) q = lt-ltb _ _ (omega (arith, first_in k (omega arith), first_in (suc k) q, p.orderly.each k (omega arith), p.orderly.apart k q))

  block_clean : (k : ℕ) → k < length f → first_fault (block_checks n (file f l h) k) ≡ None
  block_clean k q =
      let long : 3 + 9 * k + 9 ≤ length (file f l h) = omega (arith, length_file f l h) in
      let network : home (file f l h) k < n = omega (arith, home_is f l h k q, p.networks k q) in
      let up = above k q in
      let low : first (file f l h) k ≤ last (file f l h) k = omega (arith, first_in k q, last_in k q, p.orderly.each k q) in
      let apart : overlapped (file f l h) (first (file f l h) k) (last (file f l h) k) k ≡ false = none_overlapped (file f l h) (first (file f l h) k) (last (file f l h) k) k (λ b g. omega (arith, last_in b (omega arith), first_in k q, ends_before f l p.orderly k b g q)) in
      grind (arith, nat_tests)

  head_clean : (most : ℕ) → length f ≤ most → first_fault (head_checks most (file f l h)) ≡ None
  head_clean most allowed =
      let long = length_file f l h in
      let number = count_is f l h in
      let few = p.orderly.few in
      grind (arith, nat_tests)

  end_clean : first_fault (end_checks (file f l h)) ≡ None
  end_clean =
      let long = length_file f l h in
      let number = count_is f l h in
      grind (arith, nat_tests)

pub encoded_reads : EncodedReads
encoded_reads n most f l h p allowed =
    let number = count_is f l h in
    let same : (length f ≤ length f) × (length l ≡ length f) = (omega arith, p.orderly.same) in
    let none : Faultless n most (file f l h) = record {
      head = head_clean n f l h p most allowed;
      each = λ m q. block_clean n f l h p m (omega (arith, number));
      end = end_clean n f l h p;
    } in (
      none,
      ap (each (first (file f l h))) number ∙ each_is (first (file f l h)) f (length f) (omega arith) (λ j q. first_in n f l h p j q) ∙ take_all (length f) f (omega arith),
      ap (each (last (file f l h))) number ∙ each_is (last (file f l h)) l (length f) (omega (arith, p.orderly.same)) (λ j q. last_in n f l h p j q) ∙ take_all (length f) l (omega (arith, p.orderly.same)),
      ap (each (home (file f l h))) number ∙ each_is (home (file f l h)) h (length f) (omega (arith, p.homed)) (λ j q. home_is f l h j q) ∙ take_all (length f) h (omega (arith, p.homed)),
    )
