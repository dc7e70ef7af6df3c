use Rattle.delivery.proofs.Homes.{fates_at_home}
use Rattle.delivery.proofs.laws.fates_at_home.Goals as goal

pub returns : goal.returns
returns c = fates_at_home
