use Rattle.script.proofs.Turned.{turns_alone_lem}
use Rattle.script.proofs.laws.turns_alone_say_the_same.Goals as goal

pub returns : goal.returns
returns c = turns_alone_lem
