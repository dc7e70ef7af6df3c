-- Blocks of addresses: which block holds an address. Assumes nothing.
use Rattle.std.specs.Prelude.{◌≡◌, ℕ, zero, suc, ◌<◌, ◌≤◌, Bool, true, false, cond, ◌&&◌, List, length, Some, None, Option, nat_le, slice_index}
use Rattle.blocks.specs.declared.block_list.methods.TheConstants.{MOST}

-- block b holds the addresses from its first to its last, both of these too
abbrev pub holds : List ℕ → List ℕ → ℕ → ℕ → Bool
holds firsts lasts a b = nat_le (slice_index firsts b) a && nat_le a (slice_index lasts b)

-- an answer that is found already, or else another
abbrev pub or_else : Option ℕ → Option ℕ → Option ℕ
or_else (Some b) later = Some b
or_else None later = later

-- the lowest of the first k blocks that holds an address
unfoldable pub block_among : List ℕ → List ℕ → ℕ → ℕ → Option ℕ
block_among firsts lasts a zero = None
block_among firsts lasts a (suc k) =
    or_else (block_among firsts lasts a k) (cond (holds firsts lasts a k) (Some k) None)

-- the block that an address is in
abbrev pub block_at : List ℕ → List ℕ → ℕ → Option ℕ
block_at firsts lasts a = block_among firsts lasts a (length firsts)

-- no block holds an address
abbrev pub NoneHolds : List ℕ → List ℕ → ℕ → Type 0
NoneHolds firsts lasts a = (b : ℕ) → b < length firsts → holds firsts lasts a b ≡ false

-- this block holds it and no other does
abbrev pub OnlyHolds : List ℕ → List ℕ → ℕ → ℕ → Type 0
OnlyHolds firsts lasts a b =
    (b < length firsts)
    × (holds firsts lasts a b ≡ true)
    × ((c : ℕ) → c < length firsts → holds firsts lasts a c ≡ true → c ≡ b)

-- at most `MOST` blocks, each from a first address to a last that is not below it, in rising order, and no two overlap
pub record Orderly (firsts lasts : List ℕ) : Type 0 where
  pub few : length firsts ≤ MOST
  pub same : length lasts ≡ length firsts
  pub each : (b : ℕ) → b < length firsts → slice_index firsts b ≤ slice_index lasts b
  pub apart : (b : ℕ) → suc b < length firsts → slice_index lasts b < slice_index firsts (suc b)

-- of blocks in rising order, how many begin at an address or below it
pub record Begun (firsts : List ℕ) (a past : ℕ) : Type 0 where
  pub bound : past ≤ length firsts
  pub below : (b : ℕ) → b < past → slice_index firsts b ≤ a
  pub above : (b : ℕ) → past ≤ b → b < length firsts → a < slice_index firsts b
