use Rattle.messages.proofs.Back.{read_has_bytes}
use Rattle.messages.proofs.laws.what_is_read_has_bytes.Goals as goal

pub returns : goal.returns
returns c = read_has_bytes
