-- What comes next in a script. Assumes nothing.
use Rattle.std.specs.Prelude.{◌≡◌, ℕ, ◌+◌, ◌<◌, List, [], ◌∷◌, Some, None, Ok, Err, Option, Result}
use Rattle.script.specs.declared.cause.Cause.{Cause}
use Rattle.script.specs.declared.command.Command.{Command}
use Rattle.script.specs.declared.command.Limits.{Limits}
use Rattle.script.specs.declared.script.Script.{Script}
use Rattle.script.specs.Meaning.{read_line}
use Rattle.script.specs.Parts.{Line, lines}
use Rattle.script.specs.Written.{Within}

-- what a reader has yet to read
abbrev pub left_of : Script → List ℕ
left_of s = s.rest.now

-- the number of the line that it read last
abbrev pub line_of : Script → ℕ
line_of s = s.line

-- what a reader makes of a line: something that is asked for, or a cause, and of an empty line nothing
abbrev pub Reader : Type 0 → Type 0
Reader T = List ℕ → Result (Option T) Cause

-- whatever a call answers of a line is what a reader makes of it
abbrev pub Reads : {T : Type 0} → (List ℕ → Result (Option T) Cause → Type 0) → Reader T → Type 0
Reads answers reads = (l : List ℕ) (r : Result (Option _) Cause) → answers l r → r ≡ reads l

-- something that is asked for or a cause and its line, or the end; and what is left to read
pub record Ahead (T : Type 0) : Type 0 where
  pub answer : Result (Option T) Cause
  pub line : ℕ
  pub left : List ℕ

-- the line is read: what it says is the answer, but an empty line is passed over
abbrev pub reached : {T : Type 0} → Result (Option T) Cause → ℕ → List ℕ → Ahead T → Ahead T
reached (Ok None) k left later = later
reached (Ok (Some c)) k left later = record { answer = Ok (Some c); line = k; left = left }
reached (Err c) k left later = record { answer = Err c; line = k; left = left }

-- what comes next in the lines after line k
unfoldable pub ahead_in : {T : Type 0} → Reader T → ℕ → List Line → Ahead T
ahead_in reads k [] = record { answer = Ok None; line = k; left = [] }
ahead_in reads k (l ∷ ls) = reached (reads l.text) (k + 1) l.after (ahead_in reads (k + 1) ls)

abbrev pub ahead_by : {T : Type 0} → Reader T → ℕ → List ℕ → Ahead T
ahead_by reads k bs = ahead_in reads k (lines bs)

-- what comes next in a script
abbrev pub ahead : Limits → ℕ → List ℕ → Ahead Command
ahead limits k bs = ahead_by (read_line limits) k bs

-- how many bytes are left: what is asked for or a cause takes at least one, and at the end there is none
abbrev pub Falls : {T : Type 0} → Result (Option T) Cause → ℕ → ℕ → Type 0
Falls (Ok None) was is = is ≡ 0
Falls (Ok (Some c)) was is = is < was
Falls (Err c) was is = is < was

-- the numbers of a command are within the limits
abbrev pub Bounded : Limits → Result (Option Command) Cause → Type 0
Bounded limits (Ok None) = Unit {0}
Bounded limits (Ok (Some c)) = Within limits c
Bounded limits (Err c) = Unit {0}
