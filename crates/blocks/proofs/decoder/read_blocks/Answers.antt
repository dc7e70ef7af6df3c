-- Each turn reads one block more, and the list follows it.
use Rattle.std.proofs.Common.{◌≡◌, Ok, Err, subst, refl, arith, rules}
use Rattle.std.proofs.lemmas.Result.{MatchResult-at_ok, MatchResult-at_err}
use Rattle.blocks.specs.Fit.{Pushed}
use Rattle.blocks.specs.declared.refusal.Cause.{Cause}
use Rattle.blocks.specs.declared.refusal.Place.TheVariants.{Block}
use Rattle.blocks.specs.declared.refusal.Refusal.TheVariants.{Fault}
use Rattle.blocks.proofs.Progress.{sofar_none, sofar_more, told_next, refused}
use Rattle.blocks.proofs.decoder.read_blocks.Goals as goal

pub loop-k-init : goal.loop-k-init
loop-k-init c =
    let made = c.new-blocks.ensures in
    sofar_none _ _ _ _ refl c.requires.start made.firsts made.lasts made.homes

pub returns-in_err-block-clause-answer : goal.returns-in_err-block-clause-answer
returns-in_err-block-clause-answer c =
    let s = c.loop-k.invariant in
    let told : (cause : Cause) × (c.read_block.result ≡ Err cause) × (c.from_residual.result ≡ Err (Fault (record { place = Block c.loop-k.k-counter; cause = cause }))) = search rules in
    rw told.2 (s.clean, omega (arith, c.loop-k-test.true, c.requires.count), told_next s told.0 (MatchResult-at_err _ _ _ told.1 c.read_block.ensures.cases))

pub returns-in-Err-clause-answer : goal.returns-in-Err-clause-answer
returns-in-Err-clause-answer c =
    let s = c.loop-k.invariant in
    let is : c.read_block.result ≡ Ok c.in_ok-block.block = search rules in
    let block = MatchResult-at_ok _ _ _ is c.read_block.ensures.cases in
    let why = subst (λ r. Pushed c.loop-k.blocks c.push.new.self c.in_ok-block.block r) c.in-Err.is c.push.ensures in
    rw c.at_block.ensures (refused s c.in_ok-block.block (omega (arith, c.loop-k-test.true, c.requires.few)) block.0 block.1 block.2 c.in-Err.unfit why.1 (omega (arith, c.loop-k-test.true, c.requires.count)))

pub loop-k-preserved : goal.loop-k-preserved
loop-k-preserved c =
    let s = c.loop-k.invariant in
    let is : c.read_block.result ≡ Ok c.in_ok-block.block = search rules in
    let block = MatchResult-at_ok _ _ _ is c.read_block.ensures.cases in
    let pushed = subst (λ r. Pushed c.loop-k.blocks c.push.new.self c.in_ok-block.block r) c.in_default.is c.push.ensures in
    sofar_more s c.in_ok-block.block (omega (arith, c.loop-k-test.true, c.requires.few)) block.0 block.1 block.2 _ _ block.3 c.read_block.ensures.source block.4 pushed.0 pushed.1
