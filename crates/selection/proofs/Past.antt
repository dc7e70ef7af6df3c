-- Where a table has no row, nothing is told. Assumes nothing.
use Rattle.std.proofs.Common.{◌≡◌, ℕ, false, ◌&&◌, List, [], length, get_or, nat_lt, None, option_and_then, ap, ◌∙◌, ⊎_elim, arith}
use Rattle.std.specs.List.{slice_get}
use Rattle.std.proofs.lemmas.Bool.{cases_lt}
use Rattle.std.proofs.lemmas.Bool.Decides.{nat_tests}
use Rattle.std.proofs.lemmas.Option.{slice_get-get_or, slice_get_past}
use Rattle.selection.specs.Paths.{path_of, rows_of}
use Rattle.selection.specs.Rows.{Wide}
use Rattle.selection.specs.declared.table.row.Row.{Row}

-- where there is no such row, nothing is told
pub none_there : (blocks : List (List Row)) → Wide blocks → (block neighbour : ℕ) → (nat_lt block (length blocks) && nat_lt neighbour 64) ≡ false → rows_of blocks block neighbour ≡ None
none_there blocks wide block neighbour out =
    ⊎_elim
    (λ h. let w = wide block h in ap (λ o. option_and_then path_of (option_and_then (λ rows. slice_get rows neighbour) o)) (slice_get-get_or blocks block [] h) ∙ ap (option_and_then path_of) (slice_get_past (get_or blocks block []) neighbour (grind (arith, nat_tests, w, out))))
    (λ h. ap (λ o. option_and_then path_of (option_and_then (λ rows. slice_get rows neighbour) o)) (slice_get_past blocks block h))
    (cases_lt block (length blocks))
