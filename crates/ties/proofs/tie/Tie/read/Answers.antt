-- What the check finds is what is told of the tie.
use Rattle.std.proofs.Common.{◌≡◌, Err, arith, rules}
use Rattle.std.proofs.lemmas.Grind.{common_steps}
use Rattle.ties.proofs.tie.Tie.read.Goals as goal

pub returns-in_err-check-clause-cases : goal.returns-in_err-check-clause-cases
returns-in_err-check-clause-cases c =
    let is : c.from_residual-in_err-check.result ≡ Err c.in_err-check.field-0.0 = search rules in
    rw is (grind (arith, common_steps))
