-- All that a script says. Assumes nothing.
use Rattle.std.specs.Prelude.{ℕ, ◌+◌, List, [], ◌∷◌, Some, None, Ok, Err, Option, Result}
use Rattle.script.specs.declared.cause.Cause.{Cause}
use Rattle.script.specs.declared.command.Command.{Command}
use Rattle.script.specs.declared.command.Limits.{Limits}
use Rattle.script.specs.declared.script.Script.{Script}
use Rattle.script.specs.Meaning.{read_line}
use Rattle.script.specs.Next.{Ahead, Reader, ahead, left_of, line_of}
use Rattle.script.specs.Parts.{Line, lines}

-- what is asked for or a cause, and its line
pub record Entry (T : Type 0) : Type 0 where
  pub line : ℕ
  pub says : Result T Cause

-- the entry of a line, if it is not empty, before the others
abbrev pub noted : {T : Type 0} → Result (Option T) Cause → ℕ → List (Entry T) → List (Entry T)
noted (Ok None) k es = es
noted (Ok (Some c)) k es = record { line = k; says = Ok c } ∷ es
noted (Err c) k es = record { line = k; says = Err c } ∷ es

-- the entries of the lines after line k
unfoldable pub entries_in : {T : Type 0} → Reader T → ℕ → List Line → List (Entry T)
entries_in reads k [] = []
entries_in reads k (l ∷ ls) = noted (reads l.text) (k + 1) (entries_in reads (k + 1) ls)

abbrev pub entries_by : {T : Type 0} → Reader T → ℕ → List ℕ → List (Entry T)
entries_by reads k bs = entries_in reads k (lines bs)

-- all that a script says
abbrev pub entries : Limits → ℕ → List ℕ → List (Entry Command)
entries limits k bs = entries_by (read_line limits) k bs

-- an answer and its line, and then the entries of what is left; at the end there is none
abbrev pub headed : {T : Type 0} → Result (Option T) Cause → ℕ → List (Entry T) → List (Entry T)
headed (Ok None) k es = []
headed (Ok (Some c)) k es = record { line = k; says = Ok c } ∷ es
headed (Err c) k es = record { line = k; says = Err c } ∷ es

-- what comes next, and then the entries of what is left
abbrev pub listed_by : {T : Type 0} → Reader T → Ahead T → List (Entry T)
listed_by reads a = headed a.answer a.line (entries_by reads a.line a.left)

abbrev pub listed : Limits → Ahead Command → List (Entry Command)
listed limits a = listed_by (read_line limits) a

-- commands from line k + 1 on
abbrev pub numbered : ℕ → List Command → List (Entry Command)
numbered k [] = []
numbered k (c ∷ cs) = record { line = k + 1; says = Ok c } ∷ numbered (k + 1) cs

-- what a reader of a script gives next, all that it has yet to say, and an answer with what it says after it
abbrev pub coming : Limits → Script → Ahead Command
coming limits s = ahead limits (line_of s) (left_of s)

abbrev pub entries_of : Limits → Script → List (Entry Command)
entries_of limits s = entries limits (line_of s) (left_of s)

abbrev pub followed : Limits → Result (Option Command) Cause → Script → List (Entry Command)
followed limits answer s = headed answer (line_of s) (entries_of limits s)
