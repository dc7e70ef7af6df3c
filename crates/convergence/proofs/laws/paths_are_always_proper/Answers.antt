use Rattle.convergence.proofs.Runs.{always_proper}
use Rattle.convergence.proofs.laws.paths_are_always_proper.Goals as goal

pub returns : goal.returns
returns c = always_proper
