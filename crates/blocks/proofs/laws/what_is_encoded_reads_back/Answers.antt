use Rattle.blocks.proofs.Back.{reads_back}
use Rattle.blocks.proofs.laws.what_is_encoded_reads_back.Goals as goal

pub returns : goal.returns
returns c = reads_back
