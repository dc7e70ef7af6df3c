use Rattle.convergence.proofs.Standing.{heights_exist}
use Rattle.convergence.proofs.laws.heights_of_sound_ties.Goals as goal

pub returns : goal.returns
returns c = heights_exist
