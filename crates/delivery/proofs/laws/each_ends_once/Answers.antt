use Rattle.delivery.proofs.Once.{each_ends_once}
use Rattle.delivery.proofs.laws.each_ends_once.Goals as goal

pub returns : goal.returns
returns c = each_ends_once
