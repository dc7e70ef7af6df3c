-- What may be wrong with the message at the front of any bytes, in the order in which it is told. Assumes nothing.
use Rattle.std.specs.Prelude.{ℕ, not, ◌&&◌, ◌||◌, List, [], ◌∷◌, length, Option, ◌==◌, nat_lt}
use Rattle.model.specs.FirstFault.{Checks, first_fault}
use Rattle.messages.specs.declared.cause.Cause.{Cause}
use Rattle.messages.specs.declared.cause.Cause.TheVariants.{UnknownKind, Cut, BadLength, NeitherUpNorDown}
use Rattle.messages.specs.Places.{kind, is_kind, path_length, link_state, fits, extent}

-- a kind is unknown only if it is there; of bytes that end before the length of a path, or before the state of a link,
-- the cut is told, which comes first
abbrev pub checks : List ℕ → Checks Cause
checks bs =
    (UnknownKind, nat_lt 1 (length bs) && not (is_kind (kind bs))) ∷
    (Cut, nat_lt (length bs) (extent bs)) ∷
    (BadLength, kind bs == 1 && not (fits (path_length bs))) ∷
    (NeitherUpNorDown, kind bs == 4 && not (link_state bs == 0 || link_state bs == 1)) ∷
    []

abbrev pub fault : List ℕ → Option Cause
fault bs = first_fault (checks bs)
