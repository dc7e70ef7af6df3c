-- The line of a block tells what it was made of.
use Rattle.std.proofs.Common.{◌≡◌, ℕ, ◌^◌, ◌<◌, true, List, ◌∷◌, ◌++◌, drop, codes, decimal, sym, refl, ap, ◌∙◌, append_assoc, arith}
use Rattle.text.specs.Dotted.{byte0, byte1, byte2, byte3, dotted}
use Rattle.routes.specs.declared.lines.BlockLine.{BlockLine}
use Rattle.routes.specs.Laws.{LinesTellBlocks}
use Rattle.routes.proofs.Telling.{decimal_split, number_split, stops}

-- a byte, a dot and what follows it
dot_split : (m n : ℕ) (xs ys : List ℕ) → m < 256 → n < 256 → decimal m ++ (46 ∷ xs) ≡ decimal n ++ (46 ∷ ys) → (m ≡ n) × (xs ≡ ys)
dot_split m n xs ys hm hn e =
    let s = number_split m n (46 ∷ xs) (46 ∷ ys) hm hn refl refl e in
    (s.0, ap (drop 1) s.1)

-- an address before more text, byte by byte
spread : (a b c d xs : List ℕ) → (a ++ (46 ∷ (b ++ (46 ∷ (c ++ (46 ∷ d)))))) ++ xs ≡ a ++ (46 ∷ (b ++ (46 ∷ (c ++ (46 ∷ (d ++ xs))))))
spread a b c d xs =
    append_assoc a (46 ∷ (b ++ (46 ∷ (c ++ (46 ∷ d))))) xs ∙
    ap (λ l. a ++ (46 ∷ l)) (append_assoc b (46 ∷ (c ++ (46 ∷ d))) xs ∙ ap (λ l. b ++ (46 ∷ l)) (append_assoc c (46 ∷ d) xs))

dotted_on : (a : ℕ) (xs : List ℕ) → dotted a ++ xs ≡ decimal (byte0 a) ++ (46 ∷ (decimal (byte1 a) ++ (46 ∷ (decimal (byte2 a) ++ (46 ∷ (decimal (byte3 a) ++ xs))))))
dotted_on a xs = spread (decimal (byte0 a)) (decimal (byte1 a)) (decimal (byte2 a)) (decimal (byte3 a)) xs

-- an address, and what follows it
dotted_split : (a b : ℕ) (xs ys : List ℕ) → a < 2 ^ 32 → b < 2 ^ 32 → stops xs ≡ true → stops ys ≡ true → dotted a ++ xs ≡ dotted b ++ ys → (a ≡ b) × (xs ≡ ys)
dotted_split a b xs ys ha hb sx sy e =
    let s = dot_split (byte0 a) (byte0 b) _ _ (omega arith) (omega arith) (sym (dotted_on a xs) ∙ e ∙ dotted_on b ys) in
    let t = dot_split (byte1 a) (byte1 b) _ _ (omega arith) (omega arith) s.1 in
    let u = dot_split (byte2 a) (byte2 b) _ _ (omega arith) (omega arith) t.1 in
    let v = number_split (byte3 a) (byte3 b) xs ys (omega arith) (omega arith) sx sy u.1 in
    (omega (arith, s.0, t.0, u.0, v.0), v.1)

-- what follows the number of a block, its first address and its last
abbrev after_last : BlockLine → List ℕ
after_last l = codes ", home " ++ (decimal l.home ++ codes "\n")

abbrev after_first : BlockLine → List ℕ
after_first l = codes " to " ++ (dotted l.last.0 ++ after_last l)

abbrev after_block : BlockLine → List ℕ
after_block l = codes ", " ++ (dotted l.first.0 ++ after_first l)

pub blocks_tell : LinesTellBlocks
blocks_tell l m hl hm e =
    let b = decimal_split l.block m.block (after_block l) (after_block m) (omega (arith, hl.0)) (omega (arith, hm.0)) refl refl (ap (drop 6) e) in
    let f = dotted_split l.first.0 m.first.0 (after_first l) (after_first m) hl.1 hm.1 refl refl (ap (drop 2) b.1) in
    let t = dotted_split l.last.0 m.last.0 (after_last l) (after_last m) hl.2 hm.2 refl refl (ap (drop 4) f.1) in
    let h = number_split l.home m.home (codes "\n") (codes "\n") hl.3 hm.3 refl refl (ap (drop 7) t.1) in
    λ z. record { block = b.0 z; first = record { 0 = f.0 z }; last = record { 0 = t.0 z }; home = h.0 z }
