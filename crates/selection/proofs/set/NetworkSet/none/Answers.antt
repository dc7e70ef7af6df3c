-- Each place is false, and so is what lies past them.
use Rattle.std.proofs.Common.{false, get_or, ap, ◌∙◌}
use Rattle.relations.proofs.Tables.{get_or_same}
use Rattle.selection.proofs.set.NetworkSet.none.Goals as goal

pub returns : goal.returns
returns c k = ap (λ l. get_or l k false) c.unmarked.ensures ∙ get_or_same 64 k false
