-- Where nothing is chosen there is no candidate.
use Rattle.model.proofs.Chosen.{none_left}
use Rattle.model.proofs.laws.nothing_without_candidate.Goals as goal

pub returns : goal.returns
returns c = none_left
