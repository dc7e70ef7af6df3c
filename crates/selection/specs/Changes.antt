-- Tables of paths that are made, and that change by a row. Assumes nothing.
use Rattle.std.specs.Prelude.{◌≡◌, ℕ, Bool, ◌&&◌, None, nat_lt}
use Rattle.model.specs.Ports.{Port}
use Rattle.model.specs.Selection.{Said}
use Rattle.model.specs.declared.limits.TheConstants.{MOST_NETWORKS}
use Rattle.selection.specs.Paths.{count, row}
use Rattle.selection.specs.Rows.{with_row}
use Rattle.selection.specs.declared.table.PathTable.{PathTable}

-- a table of so many blocks, in which nothing is told
abbrev pub Blank : ℕ → PathTable → Type 0
Blank blocks t = (count t ≡ blocks) × ((b : ℕ) (j : Port) → row t b j ≡ None)

-- there is a row for a block and a neighbour
abbrev pub has_row : PathTable → ℕ → Port → Bool
has_row t block neighbour = nat_lt block (count t) && nat_lt neighbour MOST_NETWORKS

-- what the rows say is as before, but for one
abbrev pub ChangesRow : PathTable → PathTable → ℕ → Port → Said → Type 0
ChangesRow old new block neighbour says =
    (b : ℕ) (j : Port) → row new b j ≡ with_row (row old) block neighbour says b j
