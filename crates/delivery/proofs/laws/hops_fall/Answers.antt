use Rattle.delivery.proofs.Hops.{hops_fall}
use Rattle.delivery.proofs.laws.hops_fall.Goals as goal

pub returns : goal.returns
returns c = hops_fall
