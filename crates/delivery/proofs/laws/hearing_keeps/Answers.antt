use Rattle.delivery.proofs.Carrying.{hearing_keeps}
use Rattle.delivery.proofs.laws.hearing_keeps.Goals as goal

pub returns : goal.returns
returns c = hearing_keeps
