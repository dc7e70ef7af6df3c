use Rattle.ties.proofs.Back.{encoded_reads}
use Rattle.ties.proofs.laws.encoded_is_faultless.Goals as goal

pub returns : goal.returns
returns c = encoded_reads
