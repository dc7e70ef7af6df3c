-- The first level is known, and the climb knows the rest.
use Rattle.relations.proofs.Tables.{get_or_same}
use Rattle.cycles.proofs.Walks.{known_one}
use Rattle.cycles.proofs.walk.Slope.walk_up.Goals as goal

pub returns : goal.returns
returns c = c.climb.ensures _ (known_one _ _ _ _ _ _ (λ w. get_or_same 64 w 0) c.meet.ensures)
