-- What is kept of the letters is what is left of what they say.
use Rattle.std.proofs.Common.{◌≡◌, not, ◌||◌, vec_items, ap, ◌∙◌, rules}
use Rattle.std.specs.List.{filter}
use Rattle.std.proofs.lemmas.Result.{IfOk-weaker}
use Rattle.simulation.specs.Posts.{goes, meant, posts}
use Rattle.simulation.proofs.Posted.{cut_is}
use Rattle.simulation.proofs.posting.cut_link.Goals as goal

pub returns : goal.returns
returns c = IfOk-weaker c.collect.result (λ left. vec_items left ≡ filter (λ l. not (goes c.args.one c.args.other (meant l) || goes c.args.other c.args.one (meant l))) c.args.letters.now) _ (λ left e. ap posts e ∙ cut_is c.args.one c.args.other c.args.letters.now) (search rules)
