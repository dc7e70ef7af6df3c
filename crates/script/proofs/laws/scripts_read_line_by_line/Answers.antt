use Rattle.script.proofs.Entries.{line_by_line}
use Rattle.script.proofs.laws.scripts_read_line_by_line.Goals as goal

pub returns : goal.returns
returns c = line_by_line
