-- What is told of a line has the lowest number of what is wrong with it. Assumes nothing.
use Rattle.std.specs.Prelude.{◌≡◌, ℕ, ◌+◌, List, ◌∷◌, ◌++◌, length, Some, None, Ok, Err, Option, Result}
use Rattle.std.specs.List.{AllByRecursion}
use Rattle.model.specs.Checks.{Checks, IsLowest}
use Rattle.script.specs.declared.cause.Cause.{Cause}
use Rattle.script.specs.declared.script.Script.{Script}
use Rattle.script.specs.Next.{left_of, line_of}
use Rattle.script.specs.Number.{number}
use Rattle.script.specs.Parts.{Line, lines}

-- what is told of a line by what is read of it
abbrev pub told : {T : Type 0} → Result (Option T) Cause → Option Cause
told (Ok o) = None
told (Err c) = Some c

-- nothing is wrong with a line
abbrev pub Clear : {F : Type 0} → (F → ℕ) → (List ℕ → Checks F) → Line → Type 0
Clear number checks l = IsLowest number (checks l.text) None

-- of the lines after line k this is the one that counts: those before it have no fault, and what is told of it is its
-- lowest
pub record Lowest
    {F : Type 0} (number : F → ℕ) (checks : List ℕ → Checks F) (k : ℕ) (ls : List Line) (line : ℕ) (told : Option F) :
    Type 0 where
  pub passed : List Line
  pub at : Line
  pub later : List Line
  pub split : ls ≡ passed ++ at ∷ later
  pub counted : line ≡ k + length passed + 1
  pub clear : AllByRecursion (Clear number checks) passed
  pub lowest : IsLowest number (checks at.text) told

-- the same by an answer and its line; at the end no line has a fault
abbrev pub LowestIn : {T : Type 0} → (List ℕ → Checks Cause) → ℕ → List Line → ℕ → Result (Option T) Cause → Type 0
LowestIn checks k ls line (Ok None) = AllByRecursion (Clear number checks) ls
LowestIn checks k ls line (Ok (Some x)) = Lowest number checks k ls line None
LowestIn checks k ls line (Err c) = Lowest number checks k ls line (Some c)

-- by what a reader has read before and after the answer
abbrev pub LowestTold : {T : Type 0} → (List ℕ → Checks Cause) → Script → Script → Result (Option T) Cause → Type 0
LowestTold checks old new answer = LowestIn checks (line_of old) (lines (left_of old)) (line_of new) answer
