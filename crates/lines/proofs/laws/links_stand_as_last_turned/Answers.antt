use Rattle.lines.proofs.Last.{last_turned}
use Rattle.lines.proofs.laws.links_stand_as_last_turned.Goals as goal

pub returns : goal.returns
returns c = last_turned
