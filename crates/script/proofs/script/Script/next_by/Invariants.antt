use Rattle.std.proofs.Common.{◌≡◌, ◌≤◌, length}
use Rattle.std.specs.Fn.{FnReturnsAt}
use Rattle.script.specs.Next.{Reader, Reads, ahead_by, left_of, line_of}
use Rattle.script.proofs.script.Script.next_by.Given as goal

abbrev pub invariant-loop-self : goal.invariant-loop-self
invariant-loop-self g l =
    ((reads : Reader _) → Reads (FnReturnsAt g.F.Fn l.read) reads → ahead_by reads (line_of l.self) (left_of l.self) ≡ ahead_by reads (line_of l.initial.self) (left_of l.initial.self))
    × (length (left_of l.self) ≤ length (left_of l.initial.self))

abbrev pub decreases-loop-self : goal.decreases-loop-self
decreases-loop-self g l = length (left_of l.self)
