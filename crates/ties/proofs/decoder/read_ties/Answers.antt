-- Each turn reads one tie more, and the table follows it.
use Rattle.std.proofs.Common.{◌≡◌, Ok, Err, sym, refl, ◌∙◌, arith, rules}
use Rattle.std.proofs.lemmas.Result.{MatchResult-at_ok, MatchResult-at_err}
use Rattle.ties.specs.declared.refusal.Cause.{Cause}
use Rattle.ties.specs.declared.refusal.Place.TheVariants.{Tie}
use Rattle.ties.specs.declared.refusal.Refusal.TheVariants.{Fault}
use Rattle.ties.proofs.Progress.{sofar_none, sofar_more, told_next}
use Rattle.ties.proofs.decoder.read_ties.Goals as goal

pub loop-k-init : goal.loop-k-init
loop-k-init c =
    let made = c.in_ok-matrix.ensures in
    sofar_none _ _ _ refl c.requires.start (omega (arith, made.count, c.requires.few, c.requires.networks)) made.none

pub returns-in_err-tie-clause-answer : goal.returns-in_err-tie-clause-answer
returns-in_err-tie-clause-answer c =
    let s = c.loop-k.invariant in
    let told : (cause : Cause) × (c.read.result ≡ Err cause) × (c.from_residual-in_err-tie.result ≡ Err (Fault (record { place = Tie c.loop-k.k-counter; cause = cause }))) = search rules in
    rw told.2 (s.clean, omega (arith, c.loop-k-test.true, c.requires.ties), sym (told_next s) ∙ MatchResult-at_err _ _ _ told.1 c.read.ensures.cases)

pub loop-k-preserved : goal.loop-k-preserved
loop-k-preserved c =
    let s = c.loop-k.invariant in
    let is : c.read.result ≡ Ok c.in_ok-tie.tie = search rules in
    let tie = MatchResult-at_ok _ _ _ is c.read.ensures.cases in
    let related = c.relate.ensures in
    sofar_more s _ _ _ _ tie.0 c.read.ensures.source tie.4 tie.1 tie.2 tie.3 related.same related.test related.after
