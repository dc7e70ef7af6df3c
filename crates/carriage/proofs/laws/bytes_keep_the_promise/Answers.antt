use Rattle.carriage.proofs.Runs.{bytes_keep}
use Rattle.carriage.proofs.laws.bytes_keep_the_promise.Goals as goal

pub returns : goal.returns
returns c = bytes_keep
