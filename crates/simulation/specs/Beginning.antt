-- How a simulation begins. Assumes nothing.
use Rattle.std.specs.Prelude.{◌≡◌, ℕ, Bool, false, ◌||◌, map, vec_items, vec_len, Vec, nat_lt, slice_index_or}
use Rattle.std.specs.declared.alloc.Global.{Global}
use Rattle.relations.specs.Sound.{networks}
use Rattle.relations.specs.declared.sound.Relations.{Relations}
use Rattle.blocks.specs.Shown.{count_of}
use Rattle.blocks.specs.declared.block_list.BlockList.{BlockList}
use Rattle.model.specs.Local.{silent}
use Rattle.model.specs.Run.{begin}
use Rattle.simulation.specs.Simulated.{state_of, world_of}
use Rattle.simulation.specs.Whole.{blocks_in, local, local_at, number_of, world_with}
use Rattle.simulation.specs.declared.network.Network.{Network}
use Rattle.simulation.specs.declared.simulation.Simulation.{Simulation}
use Rattle.simulation.specs.declared.simulation.making.TheConstants.{MOST_BLOCKS, MOST_NETWORKS}

-- a network with tables of so many blocks that received and advertised nothing
abbrev pub Fresh : ℕ → ℕ → Network → Type 0
Fresh i blocks x = (number_of x ≡ i) × (blocks_in x ≡ blocks) × (local x ≡ silent)

-- the networks below n, each at its place
abbrev pub AllFresh : ℕ → ℕ → Vec Network Global → Type 0
AllFresh n blocks v =
    (vec_len v ≡ n) × ((i : ℕ) → slice_index_or (map number_of (vec_items v)) i i ≡ i) ×
    ((i : ℕ) → slice_index_or (map blocks_in (vec_items v)) i blocks ≡ blocks) ×
    ((i : ℕ) → local_at (vec_items v) i ≡ silent)

-- more networks or blocks than can be rehearsed
abbrev pub too_large : Relations → BlockList → Bool
too_large r blocks = nat_lt MOST_NETWORKS (networks r) || nat_lt MOST_BLOCKS (count_of blocks)

-- all networks as at the beginning of every run
pub record Began (r : Relations) (blocks : BlockList) (x : Simulation) : Type 0 where
  pub few : too_large r blocks ≡ false
  pub world : world_of x ≡ world_with r blocks
  pub kept : x.blocks ≡ blocks
  pub state : state_of x ≡ begin
