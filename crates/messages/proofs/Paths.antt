-- A path that is read one network after the other. Assumes nothing.
use Rattle.std.proofs.Common.{◌≡◌, ℕ, suc, ◌+◌, ◌-◌, ◌<◌, List, ◌∷◌, ◌++◌, length, get_or, set, take, replicate, sym, ap, ◌∙◌, arith}
use Rattle.std.proofs.lemmas.List.{length-take-le, take_more}
use Rattle.std.proofs.Math.Seq.{set-append_seam, append_snoc}

-- one network more, over the first of the zeros that are left
pub read_more : (xs path : List ℕ) (k x : ℕ) → path ≡ take k xs ++ replicate (64 - k) 0 → k < length xs → k < 64 → x ≡ get_or xs k 0 → set path k x ≡ take (k + 1) xs ++ replicate (64 - (k + 1)) 0
read_more xs path k x e there few is =
    let one : 64 - k ≡ suc (64 - (k + 1)) = omega arith in
    let size : length (take k xs) ≡ k = length-take-le k xs (omega arith) in
    let zeros = replicate (64 - (k + 1)) 0 in
    (λ i. set (e i) k x) ∙
    (λ i. set (take k xs ++ replicate (one i) 0) (sym size i) x) ∙
    set-append_seam (take k xs) 0 zeros x ∙
    (λ i. take k xs ++ is i ∷ zeros) ∙
    sym (append_snoc (take k xs) (get_or xs k 0) zeros) ∙
    ap (λ l. l ++ zeros) (sym (take_more xs k 0 there))
