use Rattle.model.proofs.Told.{all_to_customers_lem}
use Rattle.model.proofs.laws.all_to_customers.Goals as goal

pub returns : goal.returns
returns c = all_to_customers_lem
