use Rattle.std.proofs.Common.{◌≡◌, ◌++◌, vec_items}
use Rattle.std.specs.List.{flat_map}
use Rattle.relations.specs.Sound.{networks, relation}
use Rattle.model.specs.Lists.{gather}
use Rattle.ties.specs.Encoding.{bytes_of, row}
use Rattle.ties.proofs.encoder.push_ties.Given as goal

abbrev pub invariant-loop-i : goal.invariant-loop-i
invariant-loop-i l =
    vec_items l.out ≡ vec_items l.initial.out ++ flat_map bytes_of (gather (row (networks l.relations) (relation l.relations)) l.i)
