-- A list of blocks as bytes. Assumes nothing.
use Rattle.std.specs.Prelude.{ℕ, zero, suc, ◌/◌, ◌%◌, List, [], ◌∷◌, ◌++◌, length, slice_index}
use Rattle.blocks.specs.Shown.{firsts_of, homes_of, lasts_of}
use Rattle.blocks.specs.declared.block_list.BlockList.{BlockList}
use Rattle.blocks.specs.declared.encoder.TheConstants.{BLOCKS}
use Rattle.text.specs.Dotted.{address_bytes}

-- a block: its first address, its last, and its home
abbrev pub bytes_of : ℕ → ℕ → ℕ → List ℕ
bytes_of first last home = address_bytes first ++ address_bytes last ++ home ∷ []

-- the first k blocks, one after the other
unfoldable pub listing : List ℕ → List ℕ → List ℕ → ℕ → List ℕ
listing firsts lasts homes zero = []
listing firsts lasts homes (suc k) =
    listing firsts lasts homes k ++ bytes_of (slice_index firsts k) (slice_index lasts k) (slice_index homes k)

-- the file: `BLOCKS`, how many blocks (high byte first), and the blocks
abbrev pub encoding : List ℕ → List ℕ → List ℕ → List ℕ
encoding firsts lasts homes =
    BLOCKS ∷ length firsts / 256 ∷ length firsts % 256 ∷ listing firsts lasts homes (length firsts)

-- that of a list of blocks
abbrev pub file_of : BlockList → List ℕ
file_of blocks = encoding (firsts_of blocks) (lasts_of blocks) (homes_of blocks)
