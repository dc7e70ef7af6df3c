use Rattle.convergence.proofs.Decided.{lower_decides}
use Rattle.convergence.proofs.laws.lower_levels_decide.Goals as goal

pub returns : goal.returns
returns c = lower_decides
