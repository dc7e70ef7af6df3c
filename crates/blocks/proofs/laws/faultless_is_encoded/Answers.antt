use Rattle.blocks.proofs.Decoded.{read_encodes}
use Rattle.blocks.proofs.laws.faultless_is_encoded.Goals as goal

pub returns : goal.returns
returns c = read_encodes
