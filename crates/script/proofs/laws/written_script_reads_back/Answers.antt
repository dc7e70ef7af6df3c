use Rattle.script.proofs.Back.{script_reads_back}
use Rattle.script.proofs.laws.written_script_reads_back.Goals as goal

pub returns : goal.returns
returns c = script_reads_back
