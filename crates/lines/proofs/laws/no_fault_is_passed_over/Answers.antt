use Rattle.lines.proofs.Last.{none_is_passed_over}
use Rattle.lines.proofs.laws.no_fault_is_passed_over.Goals as goal

pub returns : goal.returns
returns c = none_is_passed_over
