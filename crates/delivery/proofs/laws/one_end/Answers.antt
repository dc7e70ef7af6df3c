use Rattle.delivery.proofs.Once.{one_end}
use Rattle.delivery.proofs.laws.one_end.Goals as goal

pub returns : goal.returns
returns c = one_end
