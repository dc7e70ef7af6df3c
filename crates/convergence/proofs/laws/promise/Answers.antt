use Rattle.convergence.proofs.Promised.{promised}
use Rattle.convergence.proofs.laws.promise.Goals as goal

pub returns : goal.returns
returns c = promised
