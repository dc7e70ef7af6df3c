-- The things that stand in a block file: its head and its blocks, by their places in the bytes. Assumes nothing.
use Rattle.std.specs.Prelude.{ℕ, zero, suc, ◌+◌, ◌*◌, List, [], ◌∷◌, ◌++◌, slice_index}
use Rattle.wire.specs.Numbers.{word16, word32}

-- the head: `BLOCKS`, how many blocks
abbrev pub count : List ℕ → ℕ
count bs = word16 bs 1

-- block k: its first address, its last, and its home
abbrev pub first : List ℕ → ℕ → ℕ
first bs k = word32 bs (3 + 9 * k)

abbrev pub last : List ℕ → ℕ → ℕ
last bs k = word32 bs (3 + 9 * k + 4)

abbrev pub home : List ℕ → ℕ → ℕ
home bs k = slice_index bs (3 + 9 * k + 8)

-- what the first k blocks say, one after the other
unfoldable pub each : (ℕ → ℕ) → ℕ → List ℕ
each said zero = []
each said (suc k) = each said k ++ said k ∷ []

-- what all blocks say
abbrev pub firsts : List ℕ → List ℕ
firsts bs = each (first bs) (count bs)

abbrev pub lasts : List ℕ → List ℕ
lasts bs = each (last bs) (count bs)

abbrev pub homes : List ℕ → List ℕ
homes bs = each (home bs) (count bs)
