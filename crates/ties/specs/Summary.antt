-- The words in which sound relations are told. Assumes nothing.
use Rattle.std.specs.Prelude.{ℕ, List, ◌++◌, length, codes, decimal}
use Rattle.model.specs.Relations.{Between}
use Rattle.ties.specs.Encoding.{listing}

-- what is told of sound relations
abbrev pub summary_words : ℕ → Between → List ℕ
summary_words n rel = decimal n ++ (codes " networks, " ++ (decimal (length (listing n rel)) ++ codes " ties, sound"))
