-- Of what may be wrong with bytes, what is told has the lowest number. Assumes nothing.
use Rattle.std.proofs.Common.{◌≡◌, ℕ, List, Some, None, refl, subst}
use Rattle.model.specs.Checks.{IsLowest}
use Rattle.model.proofs.Checks.{first_is_lowest}
use Rattle.messages.specs.declared.cause.Cause.{Cause}
use Rattle.messages.specs.Faults.{checks, fault}
use Rattle.messages.specs.Words.{number}

lowest : (bs : List ℕ) → IsLowest number (checks bs) (fault bs)
lowest bs = first_is_lowest number 0 (checks bs) refl

-- where nothing is wrong with them, or this is told
pub clean_lowest : (bs : List ℕ) → fault bs ≡ None → IsLowest number (checks bs) None
clean_lowest bs e = subst (IsLowest number (checks bs)) e (lowest bs)

pub cause_lowest : (bs : List ℕ) (cause : Cause) → fault bs ≡ Some cause → IsLowest number (checks bs) (Some cause)
cause_lowest bs cause e = subst (IsLowest number (checks bs)) e (lowest bs)
