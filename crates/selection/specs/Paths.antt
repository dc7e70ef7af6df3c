-- What a table of paths holds. Assumes nothing.
use Rattle.std.specs.Prelude.{ℕ, List, Option, option_and_then, slice_get, vec_items, vec_len}
use Rattle.selection.specs.Rows.{Rows, told}
use Rattle.selection.specs.declared.table.PathTable.{PathTable}
use Rattle.selection.specs.declared.table.row.Row.{Row}
use Rattle.model.specs.Selection.{Said}

-- how many blocks there are
abbrev pub count : PathTable → ℕ
count t = vec_len t.blocks

-- the path that a row says, if any
abbrev pub path_of : Row → Said
path_of r = told r.length r.networks

-- the row for a block and a neighbour, if there is one
abbrev pub row_at : List (List Row) → ℕ → ℕ → Option Row
row_at blocks block neighbour = option_and_then (λ rows. slice_get rows neighbour) (slice_get blocks block)

-- what the rows say, block by block
abbrev pub rows_of : List (List Row) → Rows
rows_of blocks block neighbour = option_and_then path_of (row_at blocks block neighbour)

-- the path for a block that a neighbour told, if any
abbrev pub row : PathTable → Rows
row t = rows_of (vec_items t.blocks)
