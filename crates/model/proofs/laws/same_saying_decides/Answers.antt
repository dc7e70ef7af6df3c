use Rattle.model.proofs.Sayings.{same_saying_decides_lem}
use Rattle.model.proofs.laws.same_saying_decides.Goals as goal

pub returns : goal.returns
returns c = same_saying_decides_lem
