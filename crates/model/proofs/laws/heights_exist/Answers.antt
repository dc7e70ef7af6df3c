-- The heights are those of proofs/Reach.
use Rattle.model.proofs.Reach.{heights}
use Rattle.model.proofs.laws.heights_exist.Goals as goal

pub returns : goal.returns
returns c = heights
