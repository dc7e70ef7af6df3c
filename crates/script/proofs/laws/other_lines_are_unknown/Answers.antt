use Rattle.script.proofs.Turned.{others_unknown_lem}
use Rattle.script.proofs.laws.other_lines_are_unknown.Goals as goal

pub returns : goal.returns
returns c = others_unknown_lem
