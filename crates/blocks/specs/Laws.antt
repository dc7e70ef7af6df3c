-- What holds of ranges of addresses and of blocks in order, and that reading and writing a block file undo each other.
-- Assumes nothing.
use Rattle.std.specs.Prelude.{◌≡◌, ◌≢◌, ◌↔◌, ℕ, ◌<◌, ◌≤◌, ◌^◌, true, false, List, length, Ok, Err, Result, slice_index}
use Rattle.blocks.specs.Shown.{firsts_of, homes_of, lasts_of}
use Rattle.blocks.specs.Ranges.{Orderly}
use Rattle.blocks.specs.Fit.{Same, share}
use Rattle.blocks.specs.Encoding.{encoding, file_of}
use Rattle.blocks.specs.declared.block_list.BlockList.{BlockList}
use Rattle.blocks.specs.declared.refusal.Refusal.{Refusal}
use Rattle.blocks.specs.declared.refusal.Refusal.TheVariants.{Memory}
use Rattle.blocks.specs.File.{firsts, lasts, homes}
use Rattle.blocks.specs.Faults.{Faultless}
use Rattle.blocks.specs.Outcome.{Read}

-- an address is in both of two ranges
abbrev pub Shared : ℕ → ℕ → ℕ → ℕ → Type 0
Shared first last first' last' = (a : ℕ) × (first ≤ a) × (a ≤ last) × (first' ≤ a) × (a ≤ last')

-- two ranges share addresses exactly if there is one that is in both
abbrev pub Sharing : Type 0
Sharing = (first last first' last' : ℕ) → (share first last first' last' ≡ true) ↔ Shared first last first' last'

-- of blocks in order no two share an address
abbrev pub NoneShared : Type 0
NoneShared =
    (firsts lasts : List ℕ) (b c : ℕ) → Orderly firsts lasts → b < length firsts → c < length firsts → b ≢ c →
    share (slice_index firsts b) (slice_index lasts b) (slice_index firsts c) (slice_index lasts c) ≡ false

-- blocks in order, of addresses of 32 bits, whose homes are below n
pub record Proper (n : ℕ) (firsts lasts homes : List ℕ) : Type 0 where
  pub orderly : Orderly firsts lasts
  pub homed : length homes ≡ length firsts
  pub short : (b : ℕ) → b < length firsts → slice_index lasts b < 2 ^ 32
  pub networks : (b : ℕ) → b < length firsts → slice_index homes b < n

-- a file has no fault exactly if it is the encoding of such blocks
abbrev pub ReadEncodes : Type 0
ReadEncodes =
    (n most : ℕ) (bs : List ℕ) → ((i : ℕ) → slice_index bs i < 256) → Faultless n most bs →
    bs ≡ encoding (firsts bs) (lasts bs) (homes bs)

abbrev pub EncodedReads : Type 0
EncodedReads =
    (n most : ℕ) (f l h : List ℕ) → Proper n f l h → length f ≤ most →
    Faultless n most (encoding f l h) × (firsts (encoding f l h) ≡ f) ×
    (lasts (encoding f l h) ≡ l) × (homes (encoding f l h) ≡ h)

-- the answer is the blocks themselves, or that there was no memory
abbrev pub Answers : BlockList → Result BlockList Refusal → Type 0
Answers blocks (Ok s) = Same blocks s
Answers blocks (Err e) = e ≡ Memory

-- what is encoded reads back to the same blocks
abbrev pub ReadsBack : Type 0
ReadsBack =
    (n most : ℕ) (blocks : BlockList) (answer : Result BlockList Refusal) →
    Proper n (firsts_of blocks) (lasts_of blocks) (homes_of blocks) → length (firsts_of blocks) ≤ most →
    Read n most (file_of blocks) answer → Answers blocks answer

-- what is read encodes to the same bytes
abbrev pub EncodesBack : Type 0
EncodesBack = (n most : ℕ) (bs : List ℕ) (blocks : BlockList) → Read n most bs (Ok blocks) → file_of blocks ≡ bs
