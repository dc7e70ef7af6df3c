-- The order of candidates is strict and total.
use Rattle.model.proofs.Chosen.{strict}
use Rattle.model.proofs.laws.strict_order.Goals as goal

pub returns : goal.returns
returns c = strict
