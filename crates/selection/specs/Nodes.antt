-- A network among its neighbours. Assumes nothing.
use Rattle.std.specs.Prelude.{ℕ, Bool, false, slice_index_or}
use Rattle.relations.specs.Sound.{networks, relation}
use Rattle.model.specs.declared.relation.Relation.{Relation}
use Rattle.selection.specs.declared.node.Node.{Node}
use Rattle.model.specs.Ports.{Port}
use Rattle.model.specs.Selection.{Choice, Said, by_keys, candidate, choose}
use Rattle.selection.specs.Rows.{Rows}
use Rattle.selection.specs.Worlds.{is_home_of}

-- what each neighbour is to it
abbrev pub relation_to : Node → ℕ → Relation
relation_to node = relation node.world.relations.now node.me

-- whether the link to a neighbour is up
abbrev pub link_up : Node → ℕ → Bool
link_up node j = slice_index_or node.up.now j false

-- how many networks there are
abbrev pub networks_around : Node → ℕ
networks_around node = networks node.world.relations.now

-- the path at a port that it may go by for a block, if any, by these rows
abbrev pub candidate_at : Node → Rows → ℕ → Port → Said
candidate_at node rows block j = candidate (relation_to node) (link_up node) node.me (rows block) j

-- what it goes by for a block, by these rows
abbrev pub selected_at : Node → Rows → ℕ → Choice
selected_at node rows block =
    choose (by_keys (relation_to node)) (relation_to node) (link_up node) node.me (is_home_of node.world block node.me)
    (rows block) (networks_around node)
