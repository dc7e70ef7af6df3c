use Rattle.std.proofs.Common.{length}
use Rattle.script.specs.Next.{left_of}
use Rattle.report.proofs.rehearsing.play_all.Given as goal

abbrev pub decreases-loop-command : goal.decreases-loop-command
decreases-loop-command l = length (left_of l.script)
