use Rattle.model.proofs.Holding.{stays_proper}
use Rattle.model.proofs.laws.held_paths_are_proper.Goals as goal

pub returns : goal.returns
returns c = stays_proper
