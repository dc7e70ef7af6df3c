-- What reading a block file answers. Assumes nothing.
use Rattle.std.specs.Prelude.{◌≡◌, ℕ, ◌<◌, List, length, Ok, Err, Some, None, slice_index, Result}
use Rattle.model.specs.Checks.{IsLowest}
use Rattle.blocks.specs.Shown.{firsts_of, homes_of, lasts_of}
use Rattle.blocks.specs.declared.block_list.BlockList.{BlockList}
use Rattle.blocks.specs.Encoding.{file_of}
use Rattle.blocks.specs.declared.refusal.Cause.{Cause}
use Rattle.blocks.specs.declared.refusal.Place.{Place}
use Rattle.blocks.specs.declared.refusal.Place.TheVariants.{Head, Block, End}
use Rattle.blocks.specs.declared.refusal.Refusal.{Refusal}
use Rattle.blocks.specs.declared.refusal.Refusal.TheVariants.{Fault, Memory}
use Rattle.blocks.specs.File.{count, first, last, home, each}
use Rattle.blocks.specs.Faults.{CleanBlocks, BlockFault, Faultless, FirstFault, checks_at}
use Rattle.blocks.specs.Number.{number}

-- the list says what the first k blocks say
pub record Says (bs : List ℕ) (k : ℕ) (blocks : BlockList) : Type 0 where
  pub firsts : firsts_of blocks ≡ each (first bs) k
  pub lasts : lasts_of blocks ≡ each (last bs) k
  pub homes : homes_of blocks ≡ each (home bs) k

abbrev pub AtPlace : ℕ → List ℕ → Place → Cause → Type 0
AtPlace n bs Head c = ⊥
AtPlace n bs (Block k) c = BlockFault n bs k c
AtPlace n bs End c = ⊥

abbrev pub AtBlock : ℕ → List ℕ → Refusal → Type 0
AtBlock n bs (Fault f) = AtPlace n bs f.place f.cause
AtBlock n bs Memory = Unit {0}

-- the blocks are read: the list says what they say, or the first that has a fault is told
abbrev pub BlocksRead : ℕ → List ℕ → Result BlockList Refusal → Type 0
BlocksRead n bs (Ok blocks) = CleanBlocks n bs (count bs) × Says bs (count bs) blocks
BlocksRead n bs (Err r) = AtBlock n bs r

-- the refusal: the first thing with a fault
abbrev pub Refused : ℕ → ℕ → List ℕ → Refusal → Type 0
Refused n most bs (Fault f) = FirstFault n most bs f.place f.cause
Refused n most bs Memory = Unit {0}

-- the blocks that are read
pub record Accepted (n most : ℕ) (bs : List ℕ) (blocks : BlockList) : Type 0 where
  pub faultless : Faultless n most bs
  pub says : Says bs (count bs) blocks
  pub networks : (b : ℕ) → b < length (homes_of blocks) → slice_index (homes_of blocks) b < n
  pub encodes : bs ≡ file_of blocks

-- what reading answers, where there are n networks and the caller allows `most` blocks
abbrev pub Read : ℕ → ℕ → List ℕ → Result BlockList Refusal → Type 0
Read n most bs (Ok blocks) = Accepted n most bs blocks
Read n most bs (Err e) = Refused n most bs e

-- a thing that stands in the file
abbrev pub Stands : List ℕ → Place → Type 0
Stands bs Head = Unit {0}
Stands bs (Block k) = k < count bs
Stands bs End = Unit {0}

-- no thing of the file has any fault of its list
abbrev pub Clear : ℕ → ℕ → List ℕ → Type 0
Clear n most bs = (place : Place) → Stands bs place → IsLowest number (checks_at n most bs place) None

-- the fault that is told holds of its thing, and none of the thing's has a lower number
abbrev pub Lowest : ℕ → ℕ → List ℕ → Refusal → Type 0
Lowest n most bs (Fault f) = IsLowest number (checks_at n most bs f.place) (Some f.cause)
Lowest n most bs Memory = Unit {0}

-- what is told of a file is the lowest of its thing, and nothing could be told of an accepted one
abbrev pub LowestTold : ℕ → ℕ → List ℕ → Result BlockList Refusal → Type 0
LowestTold n most bs (Ok blocks) = Clear n most bs
LowestTold n most bs (Err e) = Lowest n most bs e
