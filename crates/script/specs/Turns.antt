-- A list of turns: a script in which `turn` alone says something. Assumes nothing.
use Rattle.std.specs.Prelude.{ℕ, ◌<◌, Bool, true, cond, not, List, [], ◌∷◌, Some, None, Ok, Err, codes, Option, Result}
use Rattle.std.specs.Str.{bytes_eq}
use Rattle.model.specs.Checks.{Checks, first_fault}
use Rattle.script.specs.declared.cause.Cause.{Cause}
use Rattle.script.specs.declared.cause.Cause.TheVariants.{BadByte}
use Rattle.script.specs.declared.command.Command.{Command}
use Rattle.script.specs.declared.command.Command.TheVariants as command
use Rattle.script.specs.declared.command.Turn.{Turn}
use Rattle.script.specs.declared.script.Script.{Script}
use Rattle.script.specs.Faults.{plain, turn_checks, unknown}
use Rattle.script.specs.Meaning.{judged, number_at, up_at}
use Rattle.script.specs.Next.{Ahead, ahead_by, left_of, line_of}
use Rattle.script.specs.Parts.{content, words}
use Rattle.script.specs.Whole.{Entry, entries_by, headed}

-- the turn, by the words after the first
abbrev pub asked : List (List ℕ) → Turn
asked ws = record { first = number_at ws 0; second = number_at ws 1; up = up_at ws 2 }

abbrev pub as_command : Turn → Command
as_command t = command.Turn t.first t.second t.up

-- what is read of the words after `turn`
abbrev pub read_turn : ℕ → List (List ℕ) → Result Turn Cause
read_turn n ws = judged (first_fault (turn_checks n ws)) (asked ws)

abbrev pub is_turn : List ℕ → Bool
is_turn w = bytes_eq w (codes "turn")

-- of the words of a line: any first word but `turn` is unknown, whatever follows it
abbrev pub turns_checks : ℕ → List (List ℕ) → Checks Cause
turns_checks n [] = []
turns_checks n (w ∷ ws) = cond (is_turn w) (turn_checks n ws) unknown

-- of a line
abbrev pub turn_line_checks : ℕ → List ℕ → Checks Cause
turn_line_checks n l = (BadByte, not (plain (content l))) ∷ turns_checks n (words (content l))

abbrev pub meant : List (List ℕ) → Option Turn
meant [] = None
meant (w ∷ ws) = Some (asked ws)

-- what is read: a turn or a cause, and of an empty line nothing
abbrev pub read_turn_words : ℕ → List (List ℕ) → Result (Option Turn) Cause
read_turn_words n ws = judged (first_fault (turns_checks n ws)) (meant ws)

abbrev pub read_turn_line : ℕ → List ℕ → Result (Option Turn) Cause
read_turn_line n l = judged (first_fault (turn_line_checks n l)) (meant (words (content l)))

-- what comes next in a list of turns, of n networks
abbrev pub turns_ahead : ℕ → ℕ → List ℕ → Ahead Turn
turns_ahead n k bs = ahead_by (read_turn_line n) k bs

-- all that a list of turns says
abbrev pub turn_entries : ℕ → ℕ → List ℕ → List (Entry Turn)
turn_entries n k bs = entries_by (read_turn_line n) k bs

-- the numbers of a turn are below those of networks
abbrev pub TurnBounded : ℕ → Result (Option Turn) Cause → Type 0
TurnBounded n (Ok None) = Unit {0}
TurnBounded n (Ok (Some t)) = (t.first < n) × (t.second < n)
TurnBounded n (Err c) = Unit {0}

-- the words of a line are none, or begin with `turn`
abbrev pub opens : List (List ℕ) → Bool
opens [] = true
opens (w ∷ ws) = is_turn w

-- what is read as a turn, as a script says it
abbrev pub as_read : Result (Option Turn) Cause → Result (Option Command) Cause
as_read (Ok None) = Ok None
as_read (Ok (Some t)) = Ok (Some (as_command t))
as_read (Err c) = Err c

-- turns and their lines, as entries of a list of turns, and as those of a script
abbrev pub turns_at : List (ℕ × Turn) → List (Entry Turn)
turns_at [] = []
turns_at (t ∷ ts) = record { line = t.0; says = Ok t.1 } ∷ turns_at ts

abbrev pub commands_at : List (ℕ × Turn) → List (Entry Command)
commands_at [] = []
commands_at (t ∷ ts) = record { line = t.0; says = Ok (as_command t.1) } ∷ commands_at ts

-- what a reader of a list of turns gives next, all that it has yet to say, and an answer with what it says after it
abbrev pub turn_coming : ℕ → Script → Ahead Turn
turn_coming n s = turns_ahead n (line_of s) (left_of s)

abbrev pub turn_entries_in : ℕ → Script → List (Entry Turn)
turn_entries_in n s = turn_entries n (line_of s) (left_of s)

abbrev pub turns_then : ℕ → Result (Option Turn) Cause → Script → List (Entry Turn)
turns_then n answer s = headed answer (line_of s) (turn_entries_in n s)
