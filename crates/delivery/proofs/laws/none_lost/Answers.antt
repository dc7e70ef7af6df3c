use Rattle.delivery.proofs.Lost.{none_lost}
use Rattle.delivery.proofs.laws.none_lost.Goals as goal

pub returns : goal.returns
returns c = none_lost
