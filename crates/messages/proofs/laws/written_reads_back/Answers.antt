use Rattle.messages.proofs.Encoded.{written_reads}
use Rattle.messages.proofs.laws.written_reads_back.Goals as goal

pub returns : goal.returns
returns c = written_reads
