use Rattle.convergence.proofs.Arrival.{arrive}
use Rattle.convergence.proofs.laws.packets_arrive.Goals as goal

pub returns : goal.returns
returns c = arrive
