-- How long the paths in a table are. Assumes nothing.
use Rattle.std.proofs.Common.{◌≡◌, ℕ, ◌<◌, ◌≤◌, eqb, length, take, Some, None, sym, ap, ◌∙◌, ⊎_elim, arith, length-take}
use Rattle.std.proofs.lemmas.Bool.{cases_eq, cond-false, cond-true, eq-eqb, ne_eqb}
use Rattle.std.proofs.lemmas.Option.{none-some, option_and_then_some, same_Some}
use Rattle.model.specs.Paths.{Path, path_over}
use Rattle.model.specs.declared.limits.TheConstants.{MOST_NETWORKS}
use Rattle.selection.specs.Paths.{path_of, row, row_at}
use Rattle.selection.specs.declared.table.PathTable.{PathTable}
use Rattle.selection.specs.declared.table.row.Row.{Row}

-- the path of a row is as long as the row says
pub length_path : (r : Row) → length (take r.length r.networks) ≡ r.length
length_path r = let full = r.full in let short = r.short in simp length-take (omega arith)

path_length : (r : Row) (p : Path) → path_of r ≡ Some p → (0 < length p.networks) × (length p.networks ≤ MOST_NETWORKS)
path_length r p e =
    let said = path_over (take r.length r.networks) in
    ⊎_elim
    (λ z. absurd (none-some p (sym (cond-true (eqb r.length 0) None (Some said) (eq-eqb r.length 0 z)) ∙ e)))
    (λ ne.
    let same = ap (λ q. q.networks) (same_Some said p (sym (cond-false (eqb r.length 0) None (Some said) (ne_eqb r.length 0 ne)) ∙ e)) in
    let n : length p.networks ≡ r.length = sym (ap length same) ∙ length_path r in
    let short = r.short in (omega arith, omega arith))
    (cases_eq r.length 0)

-- a path that stands in a table has one network at least, and no more than there may be
pub row_length : (t : PathTable) (b j : ℕ) (p : Path) → Some p ≡ row t b j → (0 < length p.networks) × (length p.networks ≤ MOST_NETWORKS)
row_length t b j p e = option_and_then_some path_of (row_at t.blocks.items b j) p (sym e) (λ r _ h. path_length r p h)
