-- The things that stand in a ties file: its head and its ties, by their places in the bytes. Assumes nothing.
use Rattle.std.specs.Prelude.{ℕ, zero, suc, ◌+◌, ◌*◌, List, slice_index}
use Rattle.wire.specs.Numbers.{word16}
use Rattle.model.specs.Relations.{Between}
use Rattle.relations.specs.Between.{unrelated, with_pair}
use Rattle.ties.specs.Kind.{meant}

-- the head: `TIES`, how many networks, how many ties
abbrev pub networks : List ℕ → ℕ
networks bs = slice_index bs 1

abbrev pub ties : List ℕ → ℕ
ties bs = word16 bs 2

-- tie k: two networks and the byte of a kind
abbrev pub first : List ℕ → ℕ → ℕ
first bs k = slice_index bs (4 + 3 * k)

abbrev pub second : List ℕ → ℕ → ℕ
second bs k = slice_index bs (4 + 3 * k + 1)

abbrev pub kind : List ℕ → ℕ → ℕ
kind bs k = slice_index bs (4 + 3 * k + 2)

-- the relations by the first k ties: of each, what the second network is meant to be to the first
unfoldable pub after : List ℕ → ℕ → Between
after bs zero = unrelated
after bs (suc k) = with_pair (after bs k) (first bs k) (second bs k) (meant (kind bs k))
