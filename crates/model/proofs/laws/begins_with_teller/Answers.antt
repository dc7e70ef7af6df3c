use Rattle.model.proofs.Told.{begins_with_teller_lem}
use Rattle.model.proofs.laws.begins_with_teller.Goals as goal

pub returns : goal.returns
returns c = begins_with_teller_lem
