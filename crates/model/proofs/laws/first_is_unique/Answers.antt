-- Of two rings one comes first.
use Rattle.model.proofs.Orders.{one_first}
use Rattle.model.proofs.laws.first_is_unique.Goals as goal

pub returns : goal.returns
returns c = one_first
