-- The networks so far were looked at.
use Rattle.selection.specs.Sets.{member}
use Rattle.stable.specs.Networks.{count_in, is_home_in, links_in}
use Rattle.stable.proofs.Growth.{Growing}
use Rattle.stable.proofs.looking.Networks.spread.Given as goal

abbrev pub invariant-loop-from : goal.invariant-loop-from
invariant-loop-from l = Growing (count_in l.self) (links_in l.self) (is_home_in l.self) l.from (member l.initial.reached) (member l.reached) l.grown
