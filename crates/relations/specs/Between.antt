-- What a table of relations says, and one with a pair more. Assumes nothing.
use Rattle.std.specs.Prelude.{◌≡◌, ℕ, ◌<◌, cond, ◌&&◌, List, [], length, ◌==◌, slice_index_or}
use Rattle.model.specs.Relations.{opposite, Between}
use Rattle.model.specs.declared.limits.TheConstants.{MOST_NETWORKS}
use Rattle.model.specs.declared.relation.Relation.{Relation}
use Rattle.model.specs.declared.relation.Relation.TheVariants.{Unrelated}

-- each row has a place for each network that there may be
abbrev pub Wide : List (List Relation) → Type 0
Wide rows = (i : ℕ) → i < length rows → length (slice_index_or rows i []) ≡ MOST_NETWORKS

-- what a table says, with a row for each network: the place of j in the row of i
abbrev pub between : List (List Relation) → Between
between rows i j = slice_index_or (slice_index_or rows i []) j Unrelated

abbrev pub unrelated : Between
unrelated i j = Unrelated

-- as before, but j is x to i, and i the opposite to j
abbrev pub with_pair : Between → ℕ → ℕ → Relation → Between
with_pair rel i j x a b = cond (a == i && b == j) x (cond (a == j && b == i) (opposite x) (rel a b))
