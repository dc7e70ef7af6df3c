use Rattle.script.proofs.Turned.{turns_next_by_next}
use Rattle.script.proofs.laws.next_turn_by_next_turn_is_the_whole.Goals as goal

pub returns : goal.returns
returns c = turns_next_by_next
