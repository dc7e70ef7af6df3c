-- The block that an address is in, of those that tables have rows for. Assumes nothing.
use Rattle.std.specs.Prelude.{ℕ, cond, Some, None, Option, nat_lt}
use Rattle.blocks.specs.Ranges.{block_at}
use Rattle.blocks.specs.Shown.{lent_firsts, lent_lasts}
use Rattle.blocks.specs.declared.blocks.Blocks.{Blocks}
use Rattle.model.specs.Packets.{Lookup}

-- a block that has a row
abbrev pub below : ℕ → Option ℕ → Option ℕ
below blocks None = None
below blocks (Some b) = cond (nat_lt b blocks) (Some b) None

-- the block that an address is in, of so many
abbrev pub lookup : ℕ → Blocks → Lookup
lookup count blocks a = below count (block_at (lent_firsts blocks) (lent_lasts blocks) a)
