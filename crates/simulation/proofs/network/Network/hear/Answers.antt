-- The step on tables of its own.
use Rattle.std.proofs.Common.{◌++◌, vec_items, ◌∙◌}
use Rattle.selection.specs.Paths.{row}
use Rattle.simulation.specs.Posting.{told_by}
use Rattle.simulation.specs.Posts.{mailing, posts}
use Rattle.links.specs.Held.{number_of as router_number}
use Rattle.simulation.proofs.Stepping.{heard_step}
use Rattle.simulation.proofs.network.Network.hear.Goals as goal

pub returns : goal.returns
returns c =
    let before = posts (vec_items c.args.letters.now) in
    let says = row c.hear-heard.new.tables.advertised in
    let me = router_number c.hear-heard.result.0 in
    let told = told_by c.hear-heard.result.1 in
    heard_step c.args.world c.args.self.now c.in_ok-tables.tables c.hear-heard.new.tables c.in_ok-tables.ensures.cases c.hear-heard.ensures.blocks c.args.from c.args.update c.hear-heard.result.1 c.hear-heard.ensures.held c.hear-heard.ensures.answer c.hear-heard.result.0 (vec_items c.args.letters.now) _ c.hear-heard.ensures.router (c.in_ok-post_heard.ensures ∙ (λ z. before ++ mailing me (c.block.ensures z) told (says (c.block.ensures z)) (c.networks.ensures z)))
