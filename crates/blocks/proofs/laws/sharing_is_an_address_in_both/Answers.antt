use Rattle.blocks.proofs.Apart.{sharing}
use Rattle.blocks.proofs.laws.sharing_is_an_address_in_both.Goals as goal

pub returns : goal.returns
returns c = sharing
