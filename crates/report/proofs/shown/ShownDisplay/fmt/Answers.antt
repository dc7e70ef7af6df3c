-- Each turn writes one line.
use Rattle.std.proofs.Common.{◌<◌, arith, rules}
use Rattle.std.proofs.Output.{has_written_append, has_written_of_eq}
use Rattle.simulation.specs.Simulated.{state_of, world_of}
use Rattle.report.proofs.Lines.{next_line, shown}
use Rattle.report.proofs.shown.ShownDisplay.fmt.Goals as goal

pub loop-network-preserved : goal.loop-network-preserved
loop-network-preserved g c =
    λ plain.
    let x = c.args.self.now.simulation.now in
    let block = c.args.self.now.block in
    let below : c.loop-network.network < (world_of x).n = omega (arith, c.networks-networks.ensures, c.loop-network-test.true) in
    let line = next_line (world_of x) (state_of x) block c.loop-network.network _ below (shown x block _ _ c.block.ensures c.in-Some.is).0 c.route-route.ensures in
    has_written_of_eq _ _ _ _ _ line (has_written_append _ _ _ _ _ _ (c.loop-network.invariant plain) (search rules))
