-- Each place is zero.
use Rattle.selection.proofs.Written.{zeros}
use Rattle.selection.proofs.table.row.Row.empty.Goals as goal

pub invariant_of-result-clause-padded : goal.invariant_of-result-clause-padded
invariant_of-result-clause-padded c k h = zeros 64 k
