-- Each place holds the set.
use Rattle.stable.proofs.Links.{all_linked}
use Rattle.stable.proofs.linked.methods.all.Goals as goal

pub returns : goal.returns
returns c = λ i j. all_linked 64 c.args.ends i j
