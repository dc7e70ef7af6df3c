-- What may be wrong with each thing of a block file, in the order in which it is told, and which fault is the first.
-- Assumes nothing.
use Rattle.std.specs.Prelude.{◌≡◌, ℕ, zero, suc, ◌+◌, ◌*◌, ◌<◌, Bool, true, false, not, ◌&&◌, ◌||◌, List, [], ◌∷◌, length, Some, None, ◌==◌, nat_le, nat_lt, slice_index}
use Rattle.model.specs.Checks.{Checks, first_fault}
use Rattle.wire.specs.Numbers.{word32}
use Rattle.blocks.specs.declared.block_list.methods.TheConstants.{MOST}
use Rattle.blocks.specs.declared.encoder.TheConstants.{BLOCKS}
use Rattle.blocks.specs.declared.refusal.Cause.{Cause}
use Rattle.blocks.specs.declared.refusal.Cause.TheVariants.{UnknownKind, Cut, Surplus, NoSuchNetwork, NotRising, Turned, TooMany, Overlap, TooManyRehearsed}
use Rattle.blocks.specs.declared.refusal.Place.{Place}
use Rattle.blocks.specs.declared.refusal.Place.TheVariants.{Head, Block, End}
use Rattle.blocks.specs.File.{count, first, last}
use Rattle.blocks.specs.Fit.{share}

-- block k begins above block k - 1, if there is one
abbrev pub rises : List ℕ → ℕ → Bool
rises bs zero = true
rises bs (suc k) = nat_lt (first bs k) (first bs (suc k))

-- one of the first k blocks shares an address with those from a first to a last
unfoldable pub overlapped : List ℕ → ℕ → ℕ → ℕ → Bool
overlapped bs f l zero = false
overlapped bs f l (suc k) = share (first bs k) (last bs k) f l || overlapped bs f l k

-- of the head, where the caller allows `most` blocks
abbrev pub head_checks : ℕ → List ℕ → Checks Cause
head_checks most bs =
    (UnknownKind, nat_lt 0 (length bs) && not (slice_index bs 0 == BLOCKS)) ∷
    (Cut, nat_lt (length bs) 3) ∷
    (TooMany, nat_lt MOST (count bs)) ∷
    (TooManyRehearsed, nat_lt most (count bs)) ∷
    []

-- of a block at place p of the bytes, where there are n networks: does it begin above the one before, and does it
-- overlap an earlier one
abbrev pub block_checks_at : ℕ → List ℕ → ℕ → Bool → Bool → Checks Cause
block_checks_at n bs p above over =
    (Cut, nat_lt (length bs) (p + 9)) ∷
    (NoSuchNetwork, nat_le n (slice_index bs (p + 8))) ∷
    (NotRising, not above) ∷
    (Turned, nat_lt (word32 bs (p + 4)) (word32 bs p)) ∷
    (Overlap, over) ∷
    []

-- of block k
abbrev pub block_checks : ℕ → List ℕ → ℕ → Checks Cause
block_checks n bs k = block_checks_at n bs (3 + 9 * k) (rises bs k) (overlapped bs (first bs k) (last bs k) k)

-- of what follows the last block
abbrev pub end_checks : List ℕ → Checks Cause
end_checks bs = (Surplus, nat_lt (3 + 9 * count bs) (length bs)) ∷ []

-- of the thing at a place
abbrev pub checks_at : ℕ → ℕ → List ℕ → Place → Checks Cause
checks_at n most bs Head = head_checks most bs
checks_at n most bs (Block k) = block_checks n bs k
checks_at n most bs End = end_checks bs

-- the first k blocks have no fault
abbrev pub CleanBlocks : ℕ → List ℕ → ℕ → Type 0
CleanBlocks n bs k = (m : ℕ) → m < k → first_fault (block_checks n bs m) ≡ None

-- no thing of the file has a fault
pub record Faultless (n most : ℕ) (bs : List ℕ) : Type 0 where
  pub head : first_fault (head_checks most bs) ≡ None
  pub each : CleanBlocks n bs (count bs)
  pub end : first_fault (end_checks bs) ≡ None

-- block k is the first with a fault
abbrev pub BlockFault : ℕ → List ℕ → ℕ → Cause → Type 0
BlockFault n bs k c = CleanBlocks n bs k × (k < count bs) × (first_fault (block_checks n bs k) ≡ Some c)

-- the first thing with a fault, and what is told of it
abbrev pub FirstFault : ℕ → ℕ → List ℕ → Place → Cause → Type 0
FirstFault n most bs Head c = first_fault (head_checks most bs) ≡ Some c
FirstFault n most bs (Block k) c = (first_fault (head_checks most bs) ≡ None) × BlockFault n bs k c
FirstFault n most bs End c =
    (first_fault (head_checks most bs) ≡ None) × CleanBlocks n bs (count bs) × (first_fault (end_checks bs) ≡ Some c)
