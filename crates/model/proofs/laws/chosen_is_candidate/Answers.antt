-- A path that is chosen is a candidate.
use Rattle.model.proofs.Chosen.{usable}
use Rattle.model.proofs.laws.chosen_is_candidate.Goals as goal

pub returns : goal.returns
returns c = usable
