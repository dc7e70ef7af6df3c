-- Each turn writes one line.
use Rattle.std.proofs.Common.{rules}
use Rattle.std.proofs.Output.{has_written_append, has_written_of_eq}
use Rattle.routes.proofs.Next.{next_line}
use Rattle.routes.proofs.account.AccountDisplay.fmt.Goals as goal

pub loop-network-preserved : goal.loop-network-preserved
loop-network-preserved g c =
    λ plain.
    let line = next_line c.args.self.now.routing c.loop-network.network _ _ _ c.line.ensures.network c.line.ensures.route c.line.ensures.reaches in
    has_written_of_eq _ _ _ _ _ line (has_written_append _ _ _ _ _ _ (c.loop-network.invariant plain) (search rules))
