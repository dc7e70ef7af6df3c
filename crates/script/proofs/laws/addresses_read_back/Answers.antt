use Rattle.script.proofs.Addressed.{address_reads_back}
use Rattle.script.proofs.laws.addresses_read_back.Goals as goal

pub returns : goal.returns
returns c = address_reads_back
