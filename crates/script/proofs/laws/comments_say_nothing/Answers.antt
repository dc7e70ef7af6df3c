use Rattle.script.proofs.Comments.{comments_say_nothing_lem}
use Rattle.script.proofs.laws.comments_say_nothing.Goals as goal

pub returns : goal.returns
returns c = comments_say_nothing_lem
