-- Those with lower numbers were told.
use Rattle.std.proofs.Common.{◌≡◌, ◌≤◌, ◌+◌, ◌*◌, ◌++◌, vec_capacity, vec_items, vec_len}
use Rattle.selection.specs.Paths.{row}
use Rattle.selection.specs.Sets.{member}
use Rattle.messages.specs.Places.{most_bytes}
use Rattle.speaker.specs.Telling.{telling}
use Rattle.speaker.proofs.telling.tell.Given as goal

abbrev pub invariant-loop-to : goal.invariant-loop-to
invariant-loop-to l = record {
  items : vec_items l.out ≡ vec_items l.initial.out ++ telling l.block (member l.audience) (row l.tables.advertised l.block) l.to;
  len : vec_len l.out ≤ vec_len l.initial.out + most_bytes * l.to;
  capacity : vec_capacity l.initial.out ≤ vec_capacity l.out;
}
