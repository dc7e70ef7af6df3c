-- That of what may be wrong with bytes the lowest is told. Assumes nothing.
use Rattle.std.specs.Prelude.{ℕ, List, Some, None, Ok, Err, Result}
use Rattle.model.specs.Checks.{IsLowest}
use Rattle.messages.specs.declared.cause.Cause.{Cause}
use Rattle.messages.specs.Faults.{checks}
use Rattle.messages.specs.Words.{number}

-- of what may be wrong with the bytes, what is told has the lowest number, and nothing is wrong where nothing is told
abbrev pub TellsLowest : {X : Type 0} → List ℕ → Result X Cause → Type 0
TellsLowest bs (Ok read) = IsLowest number (checks bs) None
TellsLowest bs (Err cause) = IsLowest number (checks bs) (Some cause)
