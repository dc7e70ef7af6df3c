use Rattle.messages.proofs.Streams.{stream_writes}
use Rattle.messages.proofs.laws.a_stream_writes_back.Goals as goal

pub returns : goal.returns
returns c = stream_writes
