use Rattle.convergence.proofs.Quiescence.{forgets}
use Rattle.convergence.proofs.laws.past_is_forgotten.Goals as goal

pub returns : goal.returns
returns c = forgets
