-- What the customers told decides whether one of them is chosen, and which.
use Rattle.selection.proofs.Ranks.{customers_decide_lem}
use Rattle.selection.proofs.laws.customers_decide.Goals as goal

pub returns : goal.returns
returns c = customers_decide_lem
