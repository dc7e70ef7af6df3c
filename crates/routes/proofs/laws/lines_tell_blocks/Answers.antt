use Rattle.routes.proofs.Blocks.{blocks_tell}
use Rattle.routes.proofs.laws.lines_tell_blocks.Goals as goal

pub returns : goal.returns
returns c = blocks_tell
