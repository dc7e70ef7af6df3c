-- What the rows of a table of paths say once one is written. Assumes nothing.
use Rattle.std.proofs.Common.{◌≡◌, ℕ, zero, suc, ◌<◌, cond, ◌&&◌, eqb, List, [], ◌∷◌, length, get_or, set, replicate, nat_lt, false, None, Some, option_and_then, slice_index, sym, refl, ⊎_elim, arith}
use Rattle.std.specs.List.{slice_get}
use Rattle.std.proofs.lemmas.Bool.{cases_lt, cond-false}
use Rattle.std.proofs.lemmas.Bool.Decides.{nat_tests}
use Rattle.std.proofs.lemmas.List.{get_or_past, get_or-replicate, length-replicate}
use Rattle.std.proofs.lemmas.Option.{slice_get_read}
use Rattle.model.specs.Selection.{Said}
use Rattle.selection.proofs.Past.{none_there}
use Rattle.selection.specs.Paths.{path_of, rows_of}
use Rattle.selection.specs.Rows.{Wide, with_row}
use Rattle.selection.specs.declared.table.row.Row.{Row}

-- the place q of a list after a write to p
pub slice_get-set : {X : Type 0} (xs : List X) (p q : ℕ) (x : X) → p < length xs → slice_get (set xs p x) q ≡ cond (eqb q p) (Some x) (slice_get xs q)
slice_get-set [] p q x h = absurd (omega arith)
slice_get-set (y ∷ xs) zero zero x h = refl
slice_get-set (y ∷ xs) zero (suc q) x h = sym (cond-false (eqb (suc q) 0) (Some x) (slice_get xs q) (grind (arith, nat_tests)))
slice_get-set (y ∷ xs) (suc p) zero x h = sym (cond-false (eqb 0 (suc p)) (Some x) (Some y) (grind (arith, nat_tests)))
slice_get-set (y ∷ xs) (suc p) (suc q) x h = let e = slice_get-set xs p q x (omega arith) in grind (arith, nat_tests, e)

-- the rows after one of a block was written
pub row_written : (blocks : List (List Row)) (block neighbour : ℕ) (rows : List Row) (new : Row) (says : Said) → rows ≡ get_or blocks block rows → block < length blocks → neighbour < length rows → path_of new ≡ says → (b j : ℕ) → rows_of (set blocks block (set rows neighbour new)) b j ≡ with_row (rows_of blocks) block neighbour says b j
row_written blocks block neighbour rows new says at hb hn is b j =
    let here = slice_get_read blocks (length blocks) block rows refl hb at in
    let e = slice_get-set blocks block b (set rows neighbour new) hb in
    let f = slice_get-set rows neighbour j new hn in
    grind (arith, nat_tests, e, f, is, here)

-- where there is no row, nothing is told, so that nothing is told there afterwards changes nothing
pub none_written : (blocks : List (List Row)) → Wide blocks → (block neighbour : ℕ) → (nat_lt block (length blocks) && nat_lt neighbour 64) ≡ false → (b j : ℕ) → rows_of blocks b j ≡ with_row (rows_of blocks) block neighbour None b j
none_written blocks wide block neighbour out b j = let e = none_there blocks wide block neighbour out in grind (arith, nat_tests, e)

blank_rows : (n : ℕ) (r : Row) → path_of r ≡ None → (j : ℕ) → option_and_then path_of (slice_get (replicate n r) j) ≡ None
blank_rows zero r e j = refl
blank_rows (suc n) r e zero = e
blank_rows (suc n) r e (suc j) = blank_rows n r e j

-- rows that say nothing
pub blank : (m n : ℕ) (r : Row) → path_of r ≡ None → (b j : ℕ) → rows_of (replicate m (replicate n r)) b j ≡ None
blank zero n r e b j = refl
blank (suc m) n r e zero j = blank_rows n r e j
blank (suc m) n r e (suc b) j = blank m n r e b j

-- zeros are zero
pub zeros : (n k : ℕ) → slice_index (replicate n 0) k ≡ 0
zeros n k = ⊎_elim (λ h. get_or-replicate n k 0 0 h) (λ h. get_or_past (replicate n 0) k 0 (simp length-replicate h)) (cases_lt k n)
