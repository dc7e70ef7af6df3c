-- What a table of relations holds. Assumes nothing.
use Rattle.std.specs.Prelude.{ℕ, vec_items, vec_len}
use Rattle.model.specs.Relations.{Between}
use Rattle.relations.specs.Between.{between}
use Rattle.relations.specs.declared.matrix.Matrix.{Matrix}

-- how many networks there are
abbrev pub count : Matrix → ℕ
count m = vec_len m.rows

-- what network j is to network i
abbrev pub rel : Matrix → Between
rel m = between (vec_items m.rows)
