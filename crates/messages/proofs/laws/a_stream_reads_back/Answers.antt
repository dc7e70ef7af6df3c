use Rattle.messages.proofs.Streams.{stream_reads}
use Rattle.messages.proofs.laws.a_stream_reads_back.Goals as goal

pub returns : goal.returns
returns c = stream_reads
