-- What may be wrong with a thing that is read or heard, in the order in which it is told. Assumes nothing.
use Rattle.std.specs.Prelude.{Bool, cond, List, [], ◌∷◌, Some, None, Option}

-- each fault, and whether the thing has it
abbrev pub Checks : Type 0 → Type 0
Checks F = List (F × Bool)

-- the first that holds
abbrev pub first_fault : {F : Type 0} → Checks F → Option F
first_fault [] = None
first_fault (check ∷ later) = cond check.1 (Some check.0) (first_fault later)
