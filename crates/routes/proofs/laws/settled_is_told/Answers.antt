use Rattle.routes.proofs.Settled.{told}
use Rattle.routes.proofs.laws.settled_is_told.Goals as goal

pub returns : goal.returns
returns c = told
