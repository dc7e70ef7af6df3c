-- No candidate is before the one that is chosen.
use Rattle.model.proofs.Chosen.{none_before}
use Rattle.model.proofs.laws.none_before_chosen.Goals as goal

pub returns : goal.returns
returns c = none_before
