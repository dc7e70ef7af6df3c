use Rattle.convergence.proofs.Routings.{only_one}
use Rattle.convergence.proofs.laws.stable_routing_is_unique.Goals as goal

pub returns : goal.returns
returns c = only_one
