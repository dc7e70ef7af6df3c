-- The home, and no other, goes by its own.
use Rattle.model.proofs.Chosen.{own_home}
use Rattle.model.proofs.laws.home_by_its_own.Goals as goal

pub returns : goal.returns
returns c = own_home
