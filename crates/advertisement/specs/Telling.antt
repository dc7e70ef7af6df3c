-- What a network among its neighbours tells of a block, and to whom it is something new. Assumes nothing.
use Rattle.std.specs.Prelude.{◌≡◌, ℕ, Bool, false, cond, not, ◌&&◌, List, map, nat_eq, nat_lt, slice_index_or}
use Rattle.model.specs.Export.{same_saying, tells, told}
use Rattle.model.specs.Ports.{Port}
use Rattle.model.specs.Selection.{Said}
use Rattle.selection.specs.Meaning.{meaning}
use Rattle.selection.specs.Nodes.{link_up, networks_around, relation_to}
use Rattle.selection.specs.Changes.{has_row}
use Rattle.selection.specs.Paths.{count, row}
use Rattle.selection.specs.Rows.{Rows, with_row}
use Rattle.selection.specs.Sets.{member}
use Rattle.selection.specs.declared.node.Node.{Node}
use Rattle.selection.specs.declared.route.Route.{Route}
use Rattle.selection.specs.declared.set.NetworkSet.{NetworkSet}
use Rattle.selection.specs.declared.table.PathTable.{PathTable}

-- what it tells at a port over a link that is up, as it goes
abbrev pub told_at : Node → Route → Port → Said
told_at node route k = told (relation_to node) node.me k (meaning route)

-- what it tells there whether the link is up or not
abbrev pub tells_at : Node → Route → Port → Said
tells_at node route k = tells (relation_to node) (link_up node) node.me k (meaning route)

-- a table has a row for a block and a port, and this is something else than what stands there
abbrev pub is_news : PathTable → ℕ → Port → Said → Bool
is_news t block k says = has_row t block k && not (same_saying says (row t block k))

-- the rows of a table, but for one where this is so
abbrev pub row_if : Bool → PathTable → ℕ → Port → Said → Rows
row_if there t block k says b j = cond there (with_row (row t) block k says b j) (row t b j)

-- the rows of a table after each neighbour whose link is up was told of a block
abbrev pub rows_told : PathTable → Node → ℕ → Route → Rows
rows_told t node block route b k =
    cond (nat_eq b block && nat_lt b (count t) && nat_lt k (networks_around node) && link_up node k)
    (tells_at node route k) (row t b k)

-- those to whom that was something new
abbrev pub Told : PathTable → Node → ℕ → Route → NetworkSet → Type 0
Told t node block route audience =
    (k : ℕ) →
    member audience k ≡
    (nat_lt block (count t) && nat_lt k (networks_around node) && link_up node k &&
    not (same_saying (tells_at node route k) (row t block k)))

-- by block, whether a network is one of those that are to be told
abbrev pub in_audience : List NetworkSet → ℕ → ℕ → Bool
in_audience audiences block = slice_index_or (map member audiences) block (λ k. false)
