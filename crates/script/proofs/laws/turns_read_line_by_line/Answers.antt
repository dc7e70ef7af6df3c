use Rattle.script.proofs.Turned.{turns_line_by_line}
use Rattle.script.proofs.laws.turns_read_line_by_line.Goals as goal

pub returns : goal.returns
returns c = turns_line_by_line
