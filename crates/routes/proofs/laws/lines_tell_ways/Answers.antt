use Rattle.routes.proofs.Ways.{lines_tell}
use Rattle.routes.proofs.laws.lines_tell_ways.Goals as goal

pub returns : goal.returns
returns c = lines_tell
