use Rattle.model.proofs.Faults.{lowest_is_told}
use Rattle.model.proofs.laws.lowest_fault_is_told.Goals as goal

pub returns : goal.returns
returns c = lowest_is_told
