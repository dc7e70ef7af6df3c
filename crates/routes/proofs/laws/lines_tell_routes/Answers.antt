use Rattle.routes.proofs.Telling.{lines_tell}
use Rattle.routes.proofs.laws.lines_tell_routes.Goals as goal

pub returns : goal.returns
returns c = lines_tell
