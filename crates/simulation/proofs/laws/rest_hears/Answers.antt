use Rattle.simulation.proofs.Delivered.{rest_hears}
use Rattle.simulation.proofs.laws.rest_hears.Goals as goal

pub returns : goal.returns
returns c = rest_hears
