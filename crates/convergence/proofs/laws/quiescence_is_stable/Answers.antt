use Rattle.convergence.proofs.Quiescence.{settles}
use Rattle.convergence.proofs.laws.quiescence_is_stable.Goals as goal

pub returns : goal.returns
returns c = settles
