-- The first word names the command.
use Rattle.std.proofs.Common.{◌≡◌, Ok, Err, Some, Option, Result, sym, ap, ◌∙◌, rules}
use Rattle.std.specs.Result.{MatchResult, IsOkAnd}
use Rattle.script.specs.declared.cause.Cause.{Cause}
use Rattle.script.specs.declared.command.Command.{Command}
use Rattle.script.specs.Meaning.{read_words}
use Rattle.script.specs.Parts.{words}
use Rattle.script.proofs.Named.{lifted, named_words}
use Rattle.script.proofs.reading.read_words.Goals as goal

in_some : {Q : Command → Option Command → Type 0} → ((x : Command) (y : Option Command) → Q x y → y ≡ Some x) → (r : Result Command Cause) (o : Result (Option Command) Cause) → MatchResult r (λ x. IsOkAnd o (Q x)) (λ e. o ≡ Err e) → o ≡ lifted r
in_some same (Ok x) (Ok y) h = ap (λ z. Ok z) (same x y h)
in_some same (Ok x) (Err e) h = absurd h
in_some same (Err e) o h = h

pub returns : goal.returns
returns c =
    in_some (λ x y h. search rules) c.read_named.result c.map.result c.map.ensures.cases ∙
    ap lifted c.read_named.ensures ∙
    sym (named_words c.args.limits c.in-Some.name.now (words c.in-Some.rest.now)) ∙
    ap (read_words c.args.limits) (sym c.in-Some.ensures)
