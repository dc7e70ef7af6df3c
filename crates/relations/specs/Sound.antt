-- What sound relations hold. Assumes nothing.
use Rattle.std.specs.Prelude.{ℕ}
use Rattle.model.specs.Relations.{Between}
use Rattle.relations.specs.Table.{count, rel}
use Rattle.relations.specs.declared.sound.Relations.{Relations}

-- how many networks there are
abbrev pub networks : Relations → ℕ
networks r = count r.matrix

-- what network j is to network i
abbrev pub relation : Relations → Between
relation r = rel r.matrix
