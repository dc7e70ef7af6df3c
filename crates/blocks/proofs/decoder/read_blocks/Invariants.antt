use Rattle.wire.specs.Reading.{input}
use Rattle.blocks.proofs.Progress.{Sofar}
use Rattle.blocks.proofs.decoder.read_blocks.Given as goal

abbrev pub invariant-loop-k : goal.invariant-loop-k
invariant-loop-k l = Sofar l.networks (input l.initial.reader) l.k-counter l.reader l.blocks
