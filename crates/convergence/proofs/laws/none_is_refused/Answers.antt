use Rattle.convergence.proofs.Runs.{none_refused}
use Rattle.convergence.proofs.laws.none_is_refused.Goals as goal

pub returns : goal.returns
returns c = none_refused
