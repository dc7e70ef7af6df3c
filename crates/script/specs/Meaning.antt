-- What a line says. Assumes nothing.
use Rattle.std.specs.Prelude.{ℕ, Bool, false, List, [], ◌∷◌, Some, None, Ok, Err, Option, Result, slice_index_or}
use Rattle.std.specs.Option.{option_map, unwrap_or}
use Rattle.model.specs.Checks.{first_fault}
use Rattle.text.specs.declared.address.Address.{Address}
use Rattle.script.specs.declared.cause.Cause.{Cause}
use Rattle.script.specs.declared.cause.Cause.TheVariants.{UnknownWord}
use Rattle.script.specs.declared.command.Command.{Command}
use Rattle.script.specs.declared.command.Command.TheVariants.{Turn, Hear, Send, Show, Rest}
use Rattle.script.specs.declared.command.Limits.{Limits}
use Rattle.script.specs.Addresses.{address_of}
use Rattle.script.specs.Digits.{value}
use Rattle.script.specs.Faults.{Verb, turn, hear, send, show, rest, line_checks, standing, verb, verb_checks, words_checks}
use Rattle.script.specs.Parts.{content, words}

-- the number that word k is
abbrev pub number_at : List (List ℕ) → ℕ → ℕ
number_at ws k = unwrap_or (value (slice_index_or ws k [])) 0

abbrev pub up_at : List (List ℕ) → ℕ → Bool
up_at ws k = unwrap_or (standing (slice_index_or ws k [])) false

abbrev pub address_at : List (List ℕ) → ℕ → Address
address_at ws k = unwrap_or (address_of (slice_index_or ws k [])) (record { 0 = 0 })

-- the command, by the words after the first
abbrev pub asked : Verb → List (List ℕ) → Command
asked turn ws = Turn (number_at ws 0) (number_at ws 1) (up_at ws 2)
asked hear ws = Hear (number_at ws 0) (number_at ws 1)
asked send ws = Send (number_at ws 0) (address_at ws 1)
asked show ws = Show (number_at ws 0)
asked rest ws = Rest

abbrev pub meaning : List (List ℕ) → Option Command
meaning [] = None
meaning (w ∷ ws) = option_map (λ v. asked v ws) (verb w)

-- the cause that is told, or else what was meant
abbrev pub judged : {X : Type 0} → Option Cause → X → Result X Cause
judged None x = Ok x
judged (Some c) x = Err c

-- what is read: a command or a cause, and of an empty line nothing
abbrev pub read_verb : Limits → Verb → List (List ℕ) → Result Command Cause
read_verb limits v ws = judged (first_fault (verb_checks limits v ws)) (asked v ws)

abbrev pub read_named : Limits → Option Verb → List (List ℕ) → Result Command Cause
read_named limits None ws = Err UnknownWord
read_named limits (Some v) ws = read_verb limits v ws

abbrev pub read_words : Limits → List (List ℕ) → Result (Option Command) Cause
read_words limits ws = judged (first_fault (words_checks limits ws)) (meaning ws)

abbrev pub read_line : Limits → List ℕ → Result (Option Command) Cause
read_line limits l = judged (first_fault (line_checks limits l)) (meaning (words (content l)))
