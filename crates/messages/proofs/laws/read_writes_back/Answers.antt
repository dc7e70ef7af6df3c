use Rattle.messages.proofs.Back.{read_writes}
use Rattle.messages.proofs.laws.read_writes_back.Goals as goal

pub returns : goal.returns
returns c = read_writes
