-- That the boxes of networks with sound relations keep the promise. Assumes nothing.
use Rattle.blocks.specs.declared.blocks.Blocks.{Blocks}
use Rattle.forwarding.specs.Forwarding.{lookup}
use Rattle.links.specs.Held.{blocks_of, world_for}
use Rattle.links.specs.declared.tables.Tables.{Tables}
use Rattle.model.specs.Run.{State}
use Rattle.selection.specs.declared.world.World.{World as Lent}
use Rattle.carriage.specs.Laws.{Keeps}
use Rattle.carriage.specs.Wires.{Run, Wires}

-- whatever is lent to the boxes, and however many blocks their tables are of
abbrev pub BoxesKeepThePromise : Type 0
BoxesKeepThePromise =
    (world : Lent) (t : Tables) (blocks : Blocks) (s : Wires) →
    Run (world_for world t) (lookup (blocks_of t) blocks) s →
    (m : State) × Keeps (world_for world t) (lookup (blocks_of t) blocks) s m
