use Rattle.std.specs.Fmt.{HasWritten, IsPlainFormatter}
use Rattle.model.specs.Lists.{gather}
use Rattle.routes.specs.Accounts.{routing_line}
use Rattle.routes.proofs.account.AccountDisplay.fmt.Given as goal

abbrev pub invariant-loop-network : goal.invariant-loop-network
invariant-loop-network g l = IsPlainFormatter l.initial.f → HasWritten g.W.Write.write_str_gives l.initial.f (gather (routing_line l.self.routing) l.network) l.f
