-- What is read without a fault is the encoding of the blocks that it says. Assumes nothing.
use Rattle.std.proofs.Common.{◌≡◌, ℕ, zero, suc, ◌+◌, ◌*◌, ◌/◌, ◌%◌, ◌<◌, ◌≤◌, List, [], ◌∷◌, ◌++◌, length, get_or, take, None, sym, ap, ◌∙◌, append_assoc, append-nil, arith}
use Rattle.std.proofs.lemmas.List.{take_more, take_all}
use Rattle.std.proofs.lemmas.Bool.Decides.{nat_tests}
use Rattle.text.specs.Dotted.{byte0, byte1, byte2, byte3, address_bytes}
use Rattle.wire.specs.Numbers.{word32}
use Rattle.model.specs.Checks.{first_fault}
use Rattle.blocks.specs.Encoding.{bytes_of, listing, encoding}
use Rattle.blocks.specs.declared.block_list.methods.TheConstants.{MOST}
use Rattle.blocks.specs.declared.encoder.TheConstants.{BLOCKS}
use Rattle.blocks.specs.File.{count, first, last, home, each}
use Rattle.blocks.specs.Faults.{head_checks, end_checks, CleanBlocks, Faultless}
use Rattle.blocks.proofs.Listed.{length_each, each_at}
use Rattle.blocks.proofs.Overlaps.{sound}

-- the bytes of a list are bytes
abbrev pub Bytes : List ℕ → Type 0
Bytes bs = (i : ℕ) → get_or bs i 0 < 256

pub four : (a b c d : ℕ) → a < 256 → b < 256 → c < 256 → d < 256 → address_bytes (a * 16777216 + b * 65536 + c * 256 + d) ≡ a ∷ b ∷ c ∷ d ∷ []
four a b c d p q r s =
    let w = a * 16777216 + b * 65536 + c * 256 + d in
    let e0 : byte0 w ≡ a = omega arith in
    let e1 : byte1 w ≡ b = omega arith in
    let e2 : byte2 w ≡ c = omega arith in
    let e3 : byte3 w ≡ d = omega arith in
    λ i. e0 i ∷ e1 i ∷ e2 i ∷ e3 i ∷ []

-- the bytes from a place on
many_more : (l : List ℕ) (m j : ℕ) → m + j ≤ length l → take (m + j) l ≡ take m l ++ each (λ i. get_or l (m + i) 0) j
unfolding each
many_more l m zero h = ap (λ k. take k l) (omega arith) ∙ sym (append-nil (take m l))
many_more l m (suc j) h =
    let next : m + suc j ≡ m + j + 1 = omega arith in
    ap (λ k. take k l) next ∙
    take_more l (m + j) 0 (omega arith) ∙
    ap (λ t. t ++ get_or l (m + j) 0 ∷ []) (many_more l m j (omega arith)) ∙
    append_assoc (take m l) (each (λ i. get_or l (m + i) 0) j) (get_or l (m + j) 0 ∷ [])

nine : (bs : List ℕ) (p : ℕ) → Bytes bs → each (λ i. get_or bs (p + i) 0) 9 ≡ bytes_of (word32 bs p) (word32 bs (p + 4)) (get_or bs (p + 8) 0)
unfolding each
nine bs p small =
    let one = four (get_or bs p 0) (get_or bs (p + 1) 0) (get_or bs (p + 2) 0) (get_or bs (p + 3) 0) (small p) (small (p + 1)) (small (p + 2)) (small (p + 3)) in
    let two = four (get_or bs (p + 4) 0) (get_or bs (p + 4 + 1) 0) (get_or bs (p + 4 + 2) 0) (get_or bs (p + 4 + 3) 0) (small (p + 4)) (small (p + 4 + 1)) (small (p + 4 + 2)) (small (p + 4 + 3)) in
    let z : p + 0 ≡ p = omega arith in
    let f : p + 5 ≡ p + 4 + 1 = omega arith in
    let s : p + 6 ≡ p + 4 + 2 = omega arith in
    let v : p + 7 ≡ p + 4 + 3 = omega arith in
    (λ i. get_or bs (z i) 0 ∷ get_or bs (p + 1) 0 ∷ get_or bs (p + 2) 0 ∷ get_or bs (p + 3) 0 ∷ get_or bs (p + 4) 0 ∷ get_or bs (f i) 0 ∷ get_or bs (s i) 0 ∷ get_or bs (v i) 0 ∷ get_or bs (p + 8) 0 ∷ []) ∙
    (λ i. sym one i ++ sym two i ++ get_or bs (p + 8) 0 ∷ [])

module _ (bs : List ℕ) (small : Bytes bs) where
  bytes_are : (n k : ℕ) → k ≤ n → 3 + 9 * k ≤ length bs → get_or bs 0 0 ∷ get_or bs 1 0 ∷ get_or bs 2 0 ∷ listing (each (first bs) n) (each (last bs) n) (each (home bs) n) k ≡ take (3 + 9 * k) bs
  unfolding listing each
  bytes_are n zero le h = sym (many_more bs 0 3 h)
  bytes_are n (suc k) le h =
      let next : 3 + 9 * suc k ≡ 3 + 9 * k + 9 = omega arith in
      let a : get_or (each (first bs) n) k 0 ≡ first bs k = each_at (first bs) n k le in
      let b : get_or (each (last bs) n) k 0 ≡ last bs k = each_at (last bs) n k le in
      let d : get_or (each (home bs) n) k 0 ≡ home bs k = each_at (home bs) n k le in
      (λ i. bytes_are n k (omega arith) (omega arith) i ++ bytes_of (a i) (b i) (d i)) ∙
      ap (λ l. take (3 + 9 * k) bs ++ l) (sym (nine bs (3 + 9 * k) small)) ∙
      sym (ap (λ m. take m bs) next ∙ many_more bs (3 + 9 * k) 9 (omega arith))

-- what it means that nothing is told of the head
pub record Headed (most : ℕ) (bs : List ℕ) : Type 0 where
  pub whole : 3 ≤ length bs
  pub kind : get_or bs 0 0 ≡ BLOCKS
  pub few : count bs ≤ MOST
  pub allowed : count bs ≤ most

pub headed : (most : ℕ) (bs : List ℕ) → first_fault (head_checks most bs) ≡ None → Headed most bs
headed most bs e = record {
  whole = grind (arith, nat_tests);
  kind = grind (arith, nat_tests);
  few = grind (arith, nat_tests);
  allowed = grind (arith, nat_tests);
}

long_enough : (n : ℕ) (bs : List ℕ) (k : ℕ) → 3 ≤ length bs → CleanBlocks n bs k → 3 + 9 * k ≤ length bs
long_enough n bs zero h clean = h
long_enough n bs (suc k) h clean = omega (arith, (sound n bs k (clean k (omega arith))).whole)

ended : (bs : List ℕ) → first_fault (end_checks bs) ≡ None → length bs ≤ 3 + 9 * count bs
ended bs e = grind (arith, nat_tests)

high : (h l k : ℕ) → l < 256 → k ≡ h * 256 + l → h ≡ k / 256
high h l k low e = omega arith

low : (h l k : ℕ) → l < 256 → k ≡ h * 256 + l → l ≡ k % 256
low h l k small e = omega arith

pub read_encodes : (n most : ℕ) (bs : List ℕ) → Bytes bs → Faultless n most bs → bs ≡ encoding (each (first bs) (count bs)) (each (last bs) (count bs)) (each (home bs) (count bs))
read_encodes n most bs small f =
    let k = count bs in
    let head = headed most bs f.head in
    let long = long_enough n bs k head.whole f.each in
    let size : length (each (first bs) k) ≡ k = length_each (first bs) k in
    sym (bytes_are bs small k k (omega arith) long ∙ take_all (3 + 9 * k) bs (ended bs f.end)) ∙
    (λ i. head.kind i ∷ high (get_or bs 1 0) (get_or bs 2 0) _ (small 2) size i ∷ low (get_or bs 1 0) (get_or bs 2 0) _ (small 2) size i ∷ listing (each (first bs) k) (each (last bs) k) (each (home bs) k) (sym size i))
