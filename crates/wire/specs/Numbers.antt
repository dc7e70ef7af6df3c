-- Numbers of several bytes. Assumes nothing.
use Rattle.std.specs.Prelude.{ℕ, ◌+◌, ◌*◌, List, slice_index}

-- the number that two bytes are, the high one first
abbrev pub word16 : List ℕ → ℕ → ℕ
word16 bs k = slice_index bs k * 256 + slice_index bs (k + 1)

-- the number that four bytes are, the highest first
abbrev pub word32 : List ℕ → ℕ → ℕ
word32 bs k =
    slice_index bs k * 16777216 + slice_index bs (k + 1) * 65536 + slice_index bs (k + 2) * 256 + slice_index bs (k + 3)
