-- The lines of the networks that came before stand behind that of the block.
use Rattle.std.specs.Fmt.{HasWritten, IsPlainFormatter}
use Rattle.model.specs.Lists.{gather}
use Rattle.report.specs.Routes.{line_at}
use Rattle.report.proofs.shown.ShownDisplay.fmt.Given as goal

abbrev pub invariant-loop-network : goal.invariant-loop-network
invariant-loop-network g l =
    let lines = gather (line_at l.self.simulation.now l.self.block) l.network in
    IsPlainFormatter l.initial.f → HasWritten g.W.Write.write_str_gives l.initial.f lines l.f
