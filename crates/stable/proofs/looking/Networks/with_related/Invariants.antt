-- All that are related to a changed network so far are in the set.
use Rattle.std.proofs.Common.{◌≡◌, ℕ, ◌<◌, true}
use Rattle.selection.specs.Sets.{member}
use Rattle.stable.specs.Networks.{count_in, related_in}
use Rattle.stable.specs.Ways.{Kept}
use Rattle.stable.proofs.looking.Networks.with_related.Given as goal

abbrev pub invariant-loop-other : goal.invariant-loop-other
invariant-loop-other l =
    Kept (member l.changed) (member l.set) ×
    ((j k : ℕ) → j < l.other → k < count_in l.self → member l.changed j ≡ true → related_in l.self k j ≡ true → member l.set k ≡ true)
