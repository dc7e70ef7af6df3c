use Rattle.delivery.proofs.Once.{sent_ends_once}
use Rattle.delivery.proofs.laws.sent_ends_once.Goals as goal

pub returns : goal.returns
returns c = sent_ends_once
