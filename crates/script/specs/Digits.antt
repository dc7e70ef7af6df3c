-- Words of digits as numbers. Assumes nothing.
use Rattle.std.specs.Prelude.{ℕ, ◌+◌, ◌-◌, ◌*◌, min, Bool, cond, ◌&&◌, List, [], ◌∷◌, Some, None, Option, nat_le}

abbrev pub is_digit : ℕ → Bool
is_digit b = nat_le 48 b && nat_le b 57

-- the number that digits are after those of m
unfoldable pub value_after : ℕ → List ℕ → Option ℕ
value_after m [] = Some m
value_after m (b ∷ bs) = cond (is_digit b) (value_after (m * 10 + (b - 48)) bs) None

-- the number that a word is, if it has digits alone; no word is empty
abbrev pub value : List ℕ → Option ℕ
value w = value_after 0 w

-- all numbers from 65535 on count as one: every limit is below them
abbrev pub capped : ℕ → ℕ
capped v = min v 65535
