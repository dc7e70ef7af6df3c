use Rattle.messages.proofs.Streams.{read_on}
use Rattle.messages.proofs.laws.a_stream_is_read_on.Goals as goal

pub returns : goal.returns
returns c = read_on
