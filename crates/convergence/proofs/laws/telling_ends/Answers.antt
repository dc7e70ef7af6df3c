use Rattle.convergence.proofs.Falling.{stops}
use Rattle.convergence.proofs.laws.telling_ends.Goals as goal

pub returns : goal.returns
returns c = stops
