-- The networks so far that are not in the set show the same; all of them, as long as none was put in.
use Rattle.std.proofs.Common.{◌≡◌, true}
use Rattle.selection.specs.Sets.{member}
use Rattle.stable.specs.Looking.{Same, SameOutside}
use Rattle.stable.specs.Networks.{showing}
use Rattle.stable.proofs.looking.Networks.changed.Given as goal

abbrev pub invariant-loop-me : goal.invariant-loop-me
invariant-loop-me l =
    SameOutside l.me (member l.changed) (showing l.shown) (showing l.next) ×
    (l.same ≡ true → Same l.me (showing l.shown) (showing l.next))
