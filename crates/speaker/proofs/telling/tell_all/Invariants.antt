-- The blocks before were told.
use Rattle.std.proofs.Common.{◌≡◌, ◌≤◌, ◌+◌, ◌*◌, ◌++◌, vec_capacity, vec_items, vec_len}
use Rattle.selection.specs.Paths.{row}
use Rattle.speaker.specs.Bytes.{most_of_block}
use Rattle.speaker.specs.Telling.{tellings_of}
use Rattle.speaker.proofs.telling.tell_all.Given as goal

abbrev pub invariant-loop-block : goal.invariant-loop-block
invariant-loop-block l = record {
  items : vec_items l.out ≡ vec_items l.initial.out ++ tellings_of (vec_items l.tables.audiences) (row l.tables.advertised) l.networks l.block;
  len : vec_len l.out ≤ vec_len l.initial.out + most_of_block * l.block;
  capacity : vec_capacity l.initial.out ≤ vec_capacity l.out;
}
