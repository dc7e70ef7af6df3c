-- Each time networks are added fewer are outside.
use Rattle.selection.specs.Sets.{member}
use Rattle.stable.specs.Networks.{count_in}
use Rattle.stable.specs.Ways.{outside}
use Rattle.stable.proofs.looking.Networks.+spread_all.Given as goal

abbrev pub decreases-spread_all : goal.decreases-spread_all
decreases-spread_all l = outside (count_in l.self) (member l.reached.now)
