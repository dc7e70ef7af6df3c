-- The networks so far were asked.
use Rattle.std.proofs.Common.{◌≡◌, ℕ, ◌<◌, true}
use Rattle.selection.specs.Sets.{member}
use Rattle.stable.specs.Networks.{related_in}
use Rattle.stable.specs.Ways.{Kept}
use Rattle.stable.proofs.looking.Networks.add_related.Given as goal

abbrev pub invariant-loop-me : goal.invariant-loop-me
invariant-loop-me l =
    Kept (member l.initial.set) (member l.set) ×
    ((k : ℕ) → k < l.me → related_in l.self k l.other ≡ true → member l.set k ≡ true)
