-- Each level that goes on has met a network that was not yet seen.
use Rattle.cycles.specs.Walk.{unseen}
use Rattle.cycles.proofs.walk.Slope.+climb.Given as goal

abbrev pub decreases-climb : goal.decreases-climb
decreases-climb l = unseen l.steps.now
