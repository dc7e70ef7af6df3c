use Rattle.blocks.proofs.Encoded.{encoded_reads}
use Rattle.blocks.proofs.laws.encoded_is_faultless.Goals as goal

pub returns : goal.returns
returns c = encoded_reads
