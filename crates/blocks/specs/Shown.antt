-- What a list of blocks shows: the first address, the last and the home of each, by block; and what blocks that are
-- lent show. Assumes nothing.
use Rattle.std.specs.Prelude.{◌≡◌, ℕ, ◌<◌, List, slice_index, vec_items, vec_len}
use Rattle.blocks.specs.declared.block_list.Block.{Block}
use Rattle.blocks.specs.declared.block_list.BlockList.{BlockList}
use Rattle.blocks.specs.declared.blocks.Blocks.{Blocks}

-- how many blocks
abbrev pub count_of : BlockList → ℕ
count_of blocks = vec_len blocks.firsts

abbrev pub firsts_of : BlockList → List ℕ
firsts_of blocks = vec_items blocks.firsts

abbrev pub lasts_of : BlockList → List ℕ
lasts_of blocks = vec_items blocks.lasts

abbrev pub homes_of : BlockList → List ℕ
homes_of blocks = vec_items blocks.homes

-- block k is this one
abbrev pub IsBlockAt : BlockList → ℕ → Block → Type 0
IsBlockAt blocks k block =
    (k < count_of blocks)
    × (block.first.0 ≡ slice_index (firsts_of blocks) k)
    × (block.last.0 ≡ slice_index (lasts_of blocks) k)
    × (block.home ≡ slice_index (homes_of blocks) k)

-- of blocks that are lent
abbrev pub lent_firsts : Blocks → List ℕ
lent_firsts blocks = blocks.firsts.now

abbrev pub lent_lasts : Blocks → List ℕ
lent_lasts blocks = blocks.lasts.now
