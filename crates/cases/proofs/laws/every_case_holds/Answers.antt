use Rattle.cases.proofs.Rows.{every_row}
use Rattle.cases.proofs.laws.every_case_holds.Goals as goal

pub returns : goal.returns
returns c = every_row
