-- The words of a line, by the first of them. Assumes nothing.
use Rattle.std.proofs.Common.{◌≡◌, ℕ, List, ◌∷◌, Some, None, Ok, Err, Option, Result, refl}
use Rattle.std.specs.Option.{option_map}
use Rattle.model.specs.Checks.{first_fault}
use Rattle.script.specs.declared.cause.Cause.{Cause}
use Rattle.script.specs.declared.command.Command.{Command}
use Rattle.script.specs.declared.command.Limits.{Limits}
use Rattle.script.specs.Faults.{Verb, named_checks, verb, verb_checks}
use Rattle.script.specs.Meaning.{asked, judged, read_named, read_words}

-- a command, of a line that is not empty
abbrev pub lifted : Result Command Cause → Result (Option Command) Cause
lifted (Ok c) = Ok (Some c)
lifted (Err e) = Err e

lifted_judged : (o : Option Cause) (c : Command) → judged o (Some c) ≡ lifted (judged o c)
lifted_judged None c = refl
lifted_judged (Some e) c = refl

by_verb : (limits : Limits) (o : Option Verb) (ws : List (List ℕ)) → judged (first_fault (named_checks limits o ws)) (option_map (λ v. asked v ws) o) ≡ lifted (read_named limits o ws)
by_verb limits None ws = refl
by_verb limits (Some v) ws = lifted_judged (first_fault (verb_checks limits v ws)) (asked v ws)

pub named_words : (limits : Limits) (w : List ℕ) (ws : List (List ℕ)) → read_words limits (w ∷ ws) ≡ lifted (read_named limits (verb w) ws)
named_words limits w ws = by_verb limits (verb w) ws
