-- Numbers in a row, with commas between them. Assumes nothing.
use Rattle.std.specs.Prelude.{ℕ, List, [], ◌∷◌, ◌++◌, codes, decimal}

abbrev pub spelled : List ℕ → List ℕ
spelled [] = []
spelled (x ∷ []) = decimal x
spelled (x ∷ y ∷ ys) = decimal x ++ codes ", " ++ spelled (y ∷ ys)
