-- What holds of every script. Assumes nothing.
use Rattle.std.specs.Prelude.{◌≡◌, ◌≢◌, ℕ, ◌+◌, ◌^◌, ◌<◌, true, false, cond, List, ◌∷◌, ◌++◌, Some, Ok, Err}
use Rattle.text.specs.Dotted.{dotted}
use Rattle.text.specs.declared.address.Address.{Address}
use Rattle.script.specs.declared.cause.Cause.TheVariants.{BadByte, UnknownWord}
use Rattle.script.specs.declared.command.Command.{Command}
use Rattle.script.specs.declared.command.Limits.{Limits}
use Rattle.script.specs.declared.command.Turn.{Turn}
use Rattle.script.specs.Addresses.{address_read}
use Rattle.script.specs.Faults.{plain}
use Rattle.script.specs.Meaning.{read_line}
use Rattle.script.specs.Next.{ahead}
use Rattle.script.specs.Parts.{Feedless, content, feed, mark, words}
use Rattle.script.specs.Turns.{as_command, as_read, commands_at, opens, read_turn_line, turn_entries, turns_ahead, turns_at}
use Rattle.script.specs.Whole.{entries, listed, listed_by, noted, numbered}
use Rattle.script.specs.Written.{AllWithin, Within, all_written, written}

-- a command that is written out reads back as itself
abbrev pub ReadsBack : Type 0
ReadsBack =
    (limits : Limits) (c : Command) → limits.networks < 256 → limits.blocks < 65536 → Within limits c →
    read_line limits (written c) ≡ Ok (Some c)

-- the dotted form of an address of 32 bits reads back as that address
abbrev pub AddressReadsBack : Type 0
AddressReadsBack = (a : Address) → a.0 < 2 ^ 32 → address_read (dotted a.0) ≡ Ok a

-- a comment changes nothing
abbrev pub CommentsSayNothing : Type 0
CommentsSayNothing =
    (limits : Limits) (line comment : List ℕ) →
    read_line limits (line ++ (mark ∷ comment)) ≡ read_line limits line

-- a line, a feed and a script read as that line and then the script
abbrev pub LineByLine : Type 0
LineByLine =
    (limits : Limits) (k : ℕ) (line script : List ℕ) → Feedless line →
    entries limits k (line ++ (feed ∷ script)) ≡
    noted (read_line limits line) (k + 1) (entries limits (k + 1) script)

-- a script of commands that are written out says these commands, in their order
abbrev pub ScriptReadsBack : Type 0
ScriptReadsBack =
    (limits : Limits) (k : ℕ) (cs : List Command) → limits.networks < 256 → limits.blocks < 65536 →
    AllWithin limits cs → entries limits k (all_written cs) ≡ numbered k cs

-- what comes next again and again is all that a script says
abbrev pub NextByNext : Type 0
NextByNext =
    (limits : Limits) (k : ℕ) (script : List ℕ) →
    entries limits k script ≡ listed limits (ahead limits k script)

-- a line without a word, or with the first word `turn`, is read in a list of turns as a script reads it, its fault too
abbrev pub TurnsAsInScripts : Type 0
TurnsAsInScripts =
    (limits : Limits) (line : List ℕ) → opens (words (content line)) ≡ true →
    read_line limits line ≡ as_read (read_turn_line limits.networks line)

-- any other line has an unknown word there, if it has no bad byte
abbrev pub OthersUnknown : Type 0
OthersUnknown =
    (n : ℕ) (line : List ℕ) → opens (words (content line)) ≡ false →
    read_turn_line n line ≡ Err (cond (plain (content line)) UnknownWord BadByte)

-- so a command that is no turn is an unknown word in a list of turns
abbrev pub OtherCommands : Type 0
OtherCommands =
    (limits : Limits) (line : List ℕ) (c : Command) → ((t : Turn) → c ≢ as_command t) →
    read_line limits line ≡ Ok (Some c) → read_turn_line limits.networks line ≡ Err UnknownWord

-- a text says turns alone as a list of turns exactly if it does as a script, and then it says the same
abbrev pub TurnsAlone : Type 0
TurnsAlone =
    (limits : Limits) (k : ℕ) (text : List ℕ) (ts : List (ℕ × Turn)) →
    (entries limits k text ≡ commands_at ts → turn_entries limits.networks k text ≡ turns_at ts) ×
    (turn_entries limits.networks k text ≡ turns_at ts → entries limits k text ≡ commands_at ts)

-- a line, a feed and a list of turns read as that line and then the list
abbrev pub TurnsLineByLine : Type 0
TurnsLineByLine =
    (n k : ℕ) (line text : List ℕ) → Feedless line → turn_entries n k (line ++ (feed ∷ text)) ≡
    noted (read_turn_line n line) (k + 1) (turn_entries n (k + 1) text)

-- what comes next again and again is all that a list of turns says
abbrev pub TurnsNextByNext : Type 0
TurnsNextByNext =
    (n k : ℕ) (text : List ℕ) → turn_entries n k text ≡ listed_by (read_turn_line n) (turns_ahead n k text)
