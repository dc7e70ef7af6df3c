use Rattle.model.proofs.Told.{no_free_ride_lem}
use Rattle.model.proofs.laws.no_free_ride.Goals as goal

pub returns : goal.returns
returns c = no_free_ride_lem
