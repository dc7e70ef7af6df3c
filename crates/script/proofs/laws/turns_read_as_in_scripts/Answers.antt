use Rattle.script.proofs.Turned.{turns_as_in_scripts_lem}
use Rattle.script.proofs.laws.turns_read_as_in_scripts.Goals as goal

pub returns : goal.returns
returns c = turns_as_in_scripts_lem
