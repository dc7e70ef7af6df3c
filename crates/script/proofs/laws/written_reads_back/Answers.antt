use Rattle.script.proofs.Back.{reads_back}
use Rattle.script.proofs.laws.written_reads_back.Goals as goal

pub returns : goal.returns
returns c = reads_back
