use Rattle.delivery.proofs.Once.{sent_arrives}
use Rattle.delivery.proofs.laws.sent_arrives.Goals as goal

pub returns : goal.returns
returns c = sent_arrives
