use Rattle.convergence.proofs.Routings.{exists}
use Rattle.convergence.proofs.laws.stable_routing_exists.Goals as goal

pub returns : goal.returns
returns c = exists
