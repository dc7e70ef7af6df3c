use Rattle.carriage.proofs.Runs.{boxes_keep}
use Rattle.carriage.proofs.laws.boxes_keep_the_promise.Goals as goal

pub returns : goal.returns
returns c = boxes_keep
