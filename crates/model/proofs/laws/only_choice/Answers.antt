-- A candidate that none is before is what is chosen.
use Rattle.model.proofs.Chosen.{only}
use Rattle.model.proofs.laws.only_choice.Goals as goal

pub returns : goal.returns
returns c = only
