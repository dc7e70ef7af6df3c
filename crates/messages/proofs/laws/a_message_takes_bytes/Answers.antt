use Rattle.messages.proofs.Back.{takes_bytes}
use Rattle.messages.proofs.laws.a_message_takes_bytes.Goals as goal

pub returns : goal.returns
returns c = takes_bytes
