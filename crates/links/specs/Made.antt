-- What new tables hold, and why none are made. Assumes nothing.
use Rattle.std.specs.Prelude.{◌≡◌, ℕ, List, codes, None}
use Rattle.selection.specs.Paths.{row}
use Rattle.links.specs.Held.{audiences_of, blocks_of}
use Rattle.links.specs.declared.tables.Tables.{Tables}
use Rattle.links.specs.declared.creation_error.CreationError.{CreationError}
use Rattle.links.specs.declared.creation_error.CreationError.TheVariants.{TooLarge, Memory}

-- tables of so many blocks, in which nothing was received or advertised
abbrev pub Fresh : ℕ → Tables → Type 0
Fresh blocks t =
    (blocks_of t ≡ blocks) × ((b k : ℕ) → row t.received b k ≡ None) × ((b k : ℕ) → row t.advertised b k ≡ None)

-- what is told as too large is so; want of memory says nothing
abbrev pub IfTooLarge : Type 0 → CreationError → Type 0
IfTooLarge large TooLarge = large
IfTooLarge large Memory = Unit {0}

abbrev pub creation_error_words : CreationError → List ℕ
creation_error_words TooLarge = codes "more networks or blocks than there may be"
creation_error_words Memory = codes "out of memory"

-- tables that hold the same as others
pub record Same (t u : Tables) : Type 0 where
  pub blocks : blocks_of u ≡ blocks_of t
  pub received : (b k : ℕ) → row u.received b k ≡ row t.received b k
  pub advertised : (b k : ℕ) → row u.advertised b k ≡ row t.advertised b k
  pub audiences : audiences_of u ≡ audiences_of t
