-- What was told is what the router says of every block, to those whom it names.
use Rattle.std.proofs.Common.{refl, subst, ◌∙◌, ◌++◌, vec_items, arith}
use Rattle.selection.specs.Paths.{row}
use Rattle.links.specs.Answers.{TurnAnswered}
use Rattle.links.specs.Held.{audiences_of, held, number_of, world_for}
use Rattle.speaker.specs.Telling.{tellings_of}
use Rattle.speaker.proofs.Told.{turned_obeys}
use Rattle.speaker.proofs.turns.turn_own.Goals as goal

pub returns-in-Ok-clause-answer : goal.returns-in-Ok-clause-answer
returns-in-Ok-clause-answer c =
    let w = world_for c.args.world c.args.tables.now in
    let me = number_of c.args.router in
    let s = held c.args.router c.args.tables.now in
    let t = c.turn-turned.new.tables in
    let before = vec_items c.args.out.now in
    let blocks = c.turn-turned.ensures.blocks in
    turned_obeys
    w
    me
    c.args.other
    c.args.up
    s
    (held c.turn-turned.result.0 t)
    before
    _
    (audiences_of t)
    (row t.advertised)
    (omega (arith, t.audiences.ok.0, t.whom, blocks))
    (subst (TurnAnswered w me s c.args.other c.args.up (audiences_of t)) c.in-Ok.is c.turn-turned.ensures.answer)
    c.turn-turned.ensures.held
    (λ b k. refl)
    (c.tell_all.ensures.items ∙ (λ z. before ++ tellings_of (audiences_of t) (row t.advertised) (c.networks.ensures z) (blocks z)))
