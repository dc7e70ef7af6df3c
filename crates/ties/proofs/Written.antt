-- Ties counted and written one after the other are those of the listing. Assumes nothing.
use Rattle.std.proofs.Common.{◌≡◌, ℕ, zero, suc, ◌+◌, ◌*◌, ◌≤◌, cond, List, [], ◌∷◌, ◌++◌, length, ltb, sym, refl, ap, ◌∙◌, append-nil, arith}
use Rattle.std.specs.List.{filter, flat_map, range_with_len, sum_by}
use Rattle.std.proofs.lemmas.Bool.{cond_both}
use Rattle.std.proofs.lemmas.Bool.Decides.{nat_tests}
use Rattle.std.proofs.lemmas.Grind.{flat_map-append}
use Rattle.std.proofs.lemmas.List.Concat.{length-flat_map}
use Rattle.std.proofs.lemmas.List.Sums.{length-filter}
use Rattle.model.specs.Relations.{Between}
use Rattle.model.specs.Lists.{gather}
use Rattle.model.specs.declared.relation.Relation.{Relation}
use Rattle.model.specs.declared.relation.Relation.TheVariants.{Unrelated, Customer, Peer, Provider}
use Rattle.model.proofs.Gathered.{length_gather}
use Rattle.ties.specs.Encoding.{Listed, bytes_of, listed, listing, row}

pub length_bytes : (ts : List Listed) → length (flat_map bytes_of ts) ≡ 3 * length ts
length_bytes [] = refl
length_bytes (t ∷ ts) = omega (arith, length_bytes ts)

pub length_listed : (r : Relation) (i j : ℕ) → length (listed r i j) ≤ 1
length_listed Unrelated i j = omega arith
length_listed Customer i j = omega arith
length_listed Peer i j = cond_both (ltb i j) _ _ (λ l. length l ≤ 1) (λ _. omega arith) (λ _. omega arith)
length_listed Provider i j = omega arith

range_more : (a n : ℕ) → range_with_len a (suc n) ≡ range_with_len a n ++ (a + n) ∷ []
range_more a zero = ap (λ k. k ∷ []) (omega arith)
range_more a (suc n) =
    ap (λ l. a ∷ l) (range_more (a + 1) n ∙ ap (λ k. range_with_len (a + 1) n ++ k ∷ []) (omega arith))

-- lists one after the other, over the numbers below n
gather_flat : {X : Type 0} (f : ℕ → List X) (n : ℕ) → gather f n ≡ flat_map f (range_with_len 0 n)
gather_flat f zero = refl
gather_flat f (suc n) =
    let last : 0 + n ≡ n = omega arith in
    ap (λ l. l ++ f n) (gather_flat f n) ∙
    sym (ap (flat_map f) (range_more 0 n) ∙ flat_map-append f (range_with_len 0 n) ((0 + n) ∷ []) ∙ ap (λ l. flat_map f (range_with_len 0 n) ++ l) (append-nil (f (0 + n)) ∙ ap f last))

pub totalled : {X : Type 0} (f : ℕ → List X) (n : ℕ) → sum_by (λ i. length (f i)) (range_with_len 0 n) ≡ length (gather f n)
totalled f n = sym (length-flat_map f (range_with_len 0 n)) ∙ ap length (sym (gather_flat f n))

-- where each list has one element at most, those are counted that have one
pub counted : {X : Type 0} (f : ℕ → List X) (n : ℕ) → ((j : ℕ) → length (f j) ≤ 1) → length (filter (λ j. ltb 0 (length (f j))) (range_with_len 0 n)) ≡ length (gather f n)
counted f n one =
    let same : (j : ℕ) → cond (ltb 0 (length (f j))) 1 0 ≡ length (f j) = λ j. let h = one j in grind (arith, nat_tests) in
    length-filter (λ j. ltb 0 (length (f j))) (range_with_len 0 n) ∙ (λ i. sum_by (λ j. same j i) (range_with_len 0 n)) ∙ totalled f n

-- there are few enough ties that two bytes hold their number
pub listing_short : (n : ℕ) (rel : Between) → n ≤ 64 → length (listing n rel) ≤ 4096
listing_short n rel few =
    omega (arith, length_gather (row n rel) 64 n (λ i. omega (arith, length_gather (λ j. listed (rel i j) i j) 1 n (λ j. length_listed (rel i j) i j))))
