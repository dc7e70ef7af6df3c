-- What was told is what the router says of its block, to those whom it names.
use Rattle.std.proofs.Common.{refl, subst, ap, ◌∙◌, ◌++◌, vec_items}
use Rattle.selection.specs.Sets.{member}
use Rattle.selection.specs.Paths.{row}
use Rattle.links.specs.Answers.{Answered}
use Rattle.advertisement.specs.Updates.{news}
use Rattle.links.specs.Held.{held, number_of, world_for}
use Rattle.speaker.specs.Telling.{telling}
use Rattle.speaker.proofs.Told.{heard_obeys}
use Rattle.speaker.proofs.updates.hear.Goals as goal

pub returns-in-Ok-clause-answer : goal.returns-in-Ok-clause-answer
returns-in-Ok-clause-answer c =
    let w = world_for c.args.world c.args.tables.now in
    let me = c.args.router in
    let s = held me c.args.tables.now in
    let t = c.hear-heard.new.tables in
    let u = news c.args.update in
    let before = vec_items c.args.out.now in
    heard_obeys w (number_of me) c.args.from u s (held c.hear-heard.result.0 t) before _ c.in-Ok.audience (row t.advertised u.block)
    (subst (Answered w (number_of me) s c.args.from u) c.in-Ok.is c.hear-heard.ensures.answer)
    (ap (λ r. held r t) c.hear-heard.ensures.router ∙ c.hear-heard.ensures.held)
    (λ k. refl)
    (c.tell.ensures.items ∙ (λ z. before ++ telling (c.block.ensures z) (member c.in-Ok.audience) (row t.advertised (c.block.ensures z)) (c.networks.ensures z)))
