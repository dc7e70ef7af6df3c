use Rattle.convergence.proofs.Routings.{any_order}
use Rattle.convergence.proofs.laws.any_order_settles.Goals as goal

pub returns : goal.returns
returns c = any_order
