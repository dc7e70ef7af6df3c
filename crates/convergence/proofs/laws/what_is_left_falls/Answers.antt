use Rattle.convergence.proofs.Falling.{falls}
use Rattle.convergence.proofs.laws.what_is_left_falls.Goals as goal

pub returns : goal.returns
returns c = falls
