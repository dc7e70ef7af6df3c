-- What was prepared takes its place.
use Rattle.simulation.proofs.Reaching.{heard_ready}
use Rattle.simulation.proofs.simulation.Simulation.hear_next.Goals as goal

pub put-requires : goal.put-requires
put-requires c = let next = c.in-Some.ensures in heard_ready c.args.self.now _ _ c.in_ok-prepared.prepared next.below next.some c.in_ok-prepared.ensures
