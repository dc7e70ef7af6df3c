use Rattle.delivery.proofs.Finishing.{every_fate_ends}
use Rattle.delivery.proofs.laws.every_fate_ends.Goals as goal

pub returns : goal.returns
returns c = every_fate_ends
