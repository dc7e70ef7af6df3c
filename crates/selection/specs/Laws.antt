-- What holds of every selection from tables. Assumes nothing.
use Rattle.std.specs.Prelude.{◌≡◌, ℕ, Bool, false, ◌⊎◌, List, vec_items, slice_index_or}
use Rattle.relations.specs.Sound.{networks, relation}
use Rattle.relations.specs.declared.sound.Relations.{Relations}
use Rattle.model.specs.Paths.{Path}
use Rattle.model.specs.Ports.{Port}
use Rattle.model.specs.Selection.{Choice, via, Order, choose}
use Rattle.model.specs.SelectionLaws.{NoCustomer}
use Rattle.model.specs.World.{RankFirst}
use Rattle.model.specs.declared.relation.Relation.{Relation}
use Rattle.model.specs.declared.relation.Relation.TheVariants.{Customer}
use Rattle.selection.specs.Paths.{count, row}
use Rattle.selection.specs.declared.table.PathTable.{PathTable}

-- what a network selects in an order from its tables, where a block is its own or not
abbrev pub selected : Order → Relations → List Bool → PathTable → ℕ → ℕ → Bool → Choice
selected first r up received me block own =
    choose first (relation r me) (λ j. slice_index_or up j false) me own (λ j. row received block j) (networks r)

-- a customer's path is selected from both, and the same, or from neither
abbrev pub SameCustomer : (Port → Relation) → Choice → Choice → Type 0
SameCustomer rel a b =
    ((j : Port) × (p : Path) × (rel j ≡ Customer) × (a ≡ via j p) × (b ≡ via j p)) ⊎
    (NoCustomer rel a × NoCustomer rel b)

-- in any order that compares the kind first: if two tables of one network agree on what its customers told, with the
-- same links to customers up, then either it selects a customer's path from both, and the same, or from neither
abbrev pub CustomersDecide : Type 0
CustomersDecide =
    (first : Order) (r : Relations) (up up' : List Bool) (received received' : PathTable) (me block : ℕ) (own : Bool) →
    RankFirst (relation r me) first →
    ((j : Port) → relation r me j ≡ Customer → row received block j ≡ row received' block j) →
    ((j : Port) → relation r me j ≡ Customer → slice_index_or up j false ≡ slice_index_or up' j false) →
    SameCustomer (relation r me) (selected first r up received me block own)
    (selected first r up' received' me block own)

-- tables whose rows say the same hold the same bytes, those past a row's path too
abbrev pub SameBytes : Type 0
SameBytes =
    (t u : PathTable) → count t ≡ count u → ((b j : ℕ) → row t b j ≡ row u b j) →
    vec_items t.blocks ≡ vec_items u.blocks
