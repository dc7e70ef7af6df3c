-- What the networks found by looking is the stable routing.
use Rattle.stable.proofs.Settles.{settled}
use Rattle.stable.proofs.routing.settle.Goals as goal

pub returns : goal.returns
returns c = settled (record { networks = record { world = c.args.world; links = c.args.links; block = c.args.block }; shown = c.in_ok-shown.shown; reaching = c.reaching-reaching.result }) c.in_ok-shown.ensures c.reaching-reaching.ensures
