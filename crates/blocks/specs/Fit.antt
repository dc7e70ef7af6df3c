-- Whether a block may stand after those of a list, and how the list grows by it. Assumes nothing.
use Rattle.std.specs.Prelude.{◌≡◌, ℕ, ◌-◌, Bool, ◌&&◌, List, [], ◌∷◌, ◌++◌, length, max, min, Ok, Err, Some, None, Option, Result, nat_le, nat_lt, slice_index}
use Rattle.model.specs.Checks.{Checks, first_fault}
use Rattle.blocks.specs.Shown.{firsts_of, homes_of, lasts_of}
use Rattle.blocks.specs.declared.block_list.Block.{Block}
use Rattle.blocks.specs.declared.block_list.BlockList.{BlockList}
use Rattle.blocks.specs.declared.block_list.Unfit.{Unfit}
use Rattle.blocks.specs.declared.block_list.Unfit.TheVariants.{NotRising, Turned, TooMany, Overlap, Memory}
use Rattle.blocks.specs.declared.block_list.methods.TheConstants.{MOST}

-- two ranges share an address: those that they share go from the higher first address to the lower last
abbrev pub share : ℕ → ℕ → ℕ → ℕ → Bool
share first last first' last' = nat_le (max first first') (min last last')

-- the last block
abbrev pub before : List ℕ → ℕ
before firsts = length firsts - 1

-- what may be wrong with a block after the others, in the order in which it is told
abbrev pub unfit_checks : List ℕ → List ℕ → Block → Checks Unfit
unfit_checks firsts lasts block =
    let some : Bool = nat_lt 0 (length firsts) in
    let first : ℕ = slice_index firsts (before firsts) in
    let last : ℕ = slice_index lasts (before firsts) in
    (NotRising, some && nat_le block.first.0 first) ∷
    (Turned, nat_lt block.last.0 block.first.0) ∷
    (TooMany, nat_le MOST (length firsts)) ∷
    (Overlap, some && share first last block.first.0 block.last.0) ∷
    []

-- the first of them that it has
abbrev pub unfit : List ℕ → List ℕ → Block → Option Unfit
unfit firsts lasts block = first_fault (unfit_checks firsts lasts block)

-- why a block is refused: the cause that is told, or that there was no memory
abbrev pub Told : Option Unfit → Unfit → Type 0
Told None e = e ≡ Memory
Told (Some cause) e = e ≡ cause

-- the same blocks
pub record Same (old new : BlockList) : Type 0 where
  pub firsts : firsts_of new ≡ firsts_of old
  pub lasts : lasts_of new ≡ lasts_of old
  pub homes : homes_of new ≡ homes_of old

-- the same blocks and one more
pub record Grown (old new : BlockList) (block : Block) : Type 0 where
  pub firsts : firsts_of new ≡ firsts_of old ++ block.first.0 ∷ []
  pub lasts : lasts_of new ≡ lasts_of old ++ block.last.0 ∷ []
  pub homes : homes_of new ≡ homes_of old ++ block.home ∷ []

-- a block against which nothing is said stands after the others, unless there was no memory; otherwise the first that
-- is said is told; and where the block is refused, the blocks are the same
abbrev pub Pushed : BlockList → BlockList → Block → Result (Unit {0}) Unfit → Type 0
Pushed old new block (Ok done) = (unfit (firsts_of old) (lasts_of old) block ≡ None) × Grown old new block
Pushed old new block (Err e) = Same old new × Told (unfit (firsts_of old) (lasts_of old) block) e
