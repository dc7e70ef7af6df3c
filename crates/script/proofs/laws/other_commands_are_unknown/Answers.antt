use Rattle.script.proofs.Turned.{other_commands_lem}
use Rattle.script.proofs.laws.other_commands_are_unknown.Goals as goal

pub returns : goal.returns
returns c = other_commands_lem
