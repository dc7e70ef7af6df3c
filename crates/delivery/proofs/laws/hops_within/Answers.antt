use Rattle.delivery.proofs.Hops.{hops_within}
use Rattle.delivery.proofs.laws.hops_within.Goals as goal

pub returns : goal.returns
returns c = hops_within
