use Rattle.answered_cases.proofs.Rows.{every_row}
use Rattle.answered_cases.proofs.laws.every_answer_holds.Goals as goal

pub returns : goal.returns
returns c = every_row
