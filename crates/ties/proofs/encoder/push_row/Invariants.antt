use Rattle.std.proofs.Common.{◌≡◌, ◌++◌, vec_items}
use Rattle.std.specs.List.{flat_map}
use Rattle.relations.specs.Sound.{relation}
use Rattle.model.specs.Lists.{gather}
use Rattle.ties.specs.Encoding.{bytes_of, listed}
use Rattle.ties.proofs.encoder.push_row.Given as goal

abbrev pub invariant-loop-j : goal.invariant-loop-j
invariant-loop-j l =
    vec_items l.out ≡ vec_items l.initial.out ++ flat_map bytes_of (gather (λ j. listed (relation l.relations l.i j) l.i j) l.j)
