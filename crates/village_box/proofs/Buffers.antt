-- What is left in a buffer when some is taken from the front, or read behind it. Assumes nothing.
use Rattle.std.proofs.Common.{◌≡◌, ℕ, ◌+◌, ◌-◌, ◌≤◌, List, ◌++◌, length, drop, take, None, Some, Option, sym, ap, ◌∙◌, append_assoc, arith}
use Rattle.std.proofs.lemmas.List.{drop-drop, drop-take, length-take}
use Rattle.std.proofs.Math.Seq.{take-add}
use Rattle.std.specs.Io.KnownBytes.{Consumes}
use Rattle.village_box.specs.Inboxes.{Gained}

within : (n k : ℕ) (xs : List ℕ) → k ≤ length (take n xs) → k ≤ n
within n k xs h = omega (arith, h, length-take n xs)

-- fewer are left where some are taken
pub fewer : (start taken end : ℕ) (xs : List ℕ) → taken ≤ length (take (end - start) (drop start xs)) → take (end - (start + taken)) (drop (start + taken) xs) ≡ drop taken (take (end - start) (drop start xs))
fewer start taken end xs there =
    let h = within (end - start) taken (drop start xs) there in
    sym (ap (λ k. drop taken (take k (drop start xs))) (omega arith) ∙
    drop-take taken (end - (start + taken)) (drop start xs) ∙
    ap (take (end - (start + taken))) (drop-drop taken start xs))

gained : (was is bs : List ℕ) (old now : Option (List ℕ)) → is ≡ was ++ bs → Consumes old now bs → Gained was old is now
gained was is bs None now e c = tt
gained was is bs (Some xs) None e c = c
gained was is bs (Some xs) (Some ys) e c =
    ap (λ l. l ++ ys) e ∙ append_assoc was bs ys ∙ ap (λ l. was ++ l) (sym c)

at_front : (start end : ℕ) (xs : List ℕ) → start ≡ 0 → take (end - start) (drop start xs) ≡ take end xs
at_front start end xs z = (λ j. take (end - z j) (drop (z j) xs)) ∙ ap (λ k. take k xs) (omega arith)

-- what is read behind what is left
pub read_in : (start end n : ℕ) (was now : List ℕ) (old new : Option (List ℕ)) → start ≡ 0 → take end now ≡ take end was → Consumes old new (take n (drop end now)) → Gained (take (end - start) (drop start was)) old (take ((end + n) - start) (drop start now)) new
read_in start end n was now old new z same c =
    gained (take (end - start) (drop start was)) (take ((end + n) - start) (drop start now)) (take n (drop end now)) old new
    (at_front start (end + n) now z ∙ take-add end n now ∙
    ap (λ l. l ++ take n (drop end now)) (same ∙ sym (at_front start end was z))) c
