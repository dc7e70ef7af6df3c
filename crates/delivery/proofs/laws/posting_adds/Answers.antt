use Rattle.delivery.proofs.Carrying.{posting_adds}
use Rattle.delivery.proofs.laws.posting_adds.Goals as goal

pub returns : goal.returns
returns c = posting_adds
