use Rattle.blocks.proofs.Apart.{none_shared}
use Rattle.blocks.proofs.laws.no_two_overlap.Goals as goal

pub returns : goal.returns
returns c = none_shared
