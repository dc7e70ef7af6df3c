-- The refusal of a block that may not stand after those before it. Assumes nothing.
use Rattle.std.specs.Prelude.{ℕ}
use Rattle.blocks.specs.declared.block_list.Unfit.{Unfit}
use Rattle.blocks.specs.declared.block_list.Unfit.TheVariants.{NotRising as NotAbove, Turned as FirstAboveLast, TooMany as NoRoom, Overlap as Shares, Memory as NoMemory}
use Rattle.blocks.specs.declared.refusal.Cause.TheVariants.{NotRising, Turned, TooMany, Overlap}
use Rattle.blocks.specs.declared.refusal.Place.TheVariants.{Block}
use Rattle.blocks.specs.declared.refusal.Refusal.{Refusal}
use Rattle.blocks.specs.declared.refusal.Refusal.TheVariants.{Fault, Memory}

-- the same cause, told of the block, or want of memory
abbrev pub refusal_at : ℕ → Unfit → Refusal
refusal_at k NotAbove = Fault (record { place = Block k; cause = NotRising })
refusal_at k FirstAboveLast = Fault (record { place = Block k; cause = Turned })
refusal_at k NoRoom = Fault (record { place = Block k; cause = TooMany })
refusal_at k Shares = Fault (record { place = Block k; cause = Overlap })
refusal_at k NoMemory = Memory
