use Rattle.script.proofs.Entries.{next_by_next}
use Rattle.script.proofs.laws.next_by_next_is_the_whole.Goals as goal

pub returns : goal.returns
returns c = next_by_next
