-- One step of reading blocks, by the bytes of a block alone. Assumes nothing.
use Rattle.std.specs.Prelude.{◌≡◌, ℕ, None, ◌+◌, List, [], ◌∷◌, length, nat_le, nat_lt, slice_index}
use Rattle.model.specs.Checks.{Checks, first_fault}
use Rattle.wire.specs.Reading.{input, place}
use Rattle.wire.specs.Numbers.{word32}
use Rattle.wire.specs.declared.reader.Reader.{Reader}
use Rattle.blocks.specs.declared.block_list.Block.{Block}
use Rattle.blocks.specs.declared.refusal.Cause.{Cause}
use Rattle.blocks.specs.declared.refusal.Cause.TheVariants.{Cut, NoSuchNetwork}
use Rattle.blocks.specs.Faults.{head_checks}
use Rattle.blocks.specs.File.{count}

-- what may be wrong with the block at place p, whichever blocks and addresses there are
abbrev pub bytes_checks : ℕ → List ℕ → ℕ → Checks Cause
bytes_checks n bs p = (Cut, nat_lt (length bs) (p + 9)) ∷ (NoSuchNetwork, nat_le n (slice_index bs (p + 8))) ∷ []

-- the head is read, and has no fault
abbrev pub HeadRead : ℕ → Reader → Reader → ℕ → Type 0
HeadRead most old new blocks =
    (first_fault (head_checks most (input old)) ≡ None)
    × (blocks ≡ count (input old))
    × (place new ≡ 3)

-- the block is read, and its bytes alone have no fault
abbrev pub BlockRead : ℕ → Reader → Reader → Block → Type 0
BlockRead n old new block =
    (first_fault (bytes_checks n (input old) (place old)) ≡ None)
    × (block.first.0 ≡ word32 (input old) (place old))
    × (block.last.0 ≡ word32 (input old) (place old + 4))
    × (block.home ≡ slice_index (input old) (place old + 8))
    × (place new ≡ place old + 9)
