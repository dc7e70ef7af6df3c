use Rattle.wire.specs.Reading.{input}
use Rattle.ties.proofs.Progress.{Sofar}
use Rattle.ties.proofs.decoder.read_ties.Given as goal

abbrev pub invariant-loop-k : goal.invariant-loop-k
invariant-loop-k l = Sofar (input l.initial.reader) l.k-counter l.reader l.matrix l.last
