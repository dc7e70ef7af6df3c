-- The ranks below one decide.
use Rattle.model.proofs.Ranks.{rank_decides_lem}
use Rattle.model.proofs.laws.rank_decides.Goals as goal

pub returns : goal.returns
returns c = rank_decides_lem
