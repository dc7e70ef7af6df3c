use Rattle.std.proofs.Common.{◌+◌, ◌<◌, length, set, vec_items, sym, ◌∙◌, subst, arith}
use Rattle.model.specs.Hearing.{only}
use Rattle.model.specs.Local.{retold, sends}
use Rattle.links.specs.Answers.{ToldAll}
use Rattle.links.specs.Held.{held, number_of, world_for}
use Rattle.links.proofs.Receiving.{same_world, then_is}
use Rattle.links.proofs.Turning.{export_more, told_more}
use Rattle.links.proofs.router.Router.export_all.Goals as goal

pub loop-block-preserved : goal.loop-block-preserved
loop-block-preserved c =
    let world = c.args.world in
    let t = c.args.tables.now in
    let me = number_of c.args.self in
    let s = held c.args.self t in
    let b = c.loop-block.block in
    let inv = c.loop-block.invariant in
    let place = same_world world c.loop-block.tables t inv.0 in
    let list = c.loop-block.tables.audiences in
    let kept = c.export-audience.ensures.audiences in
    let then = then_is c.args.self c.export-audience.new.tables c.loop-block.tables c.export-audience.ensures.received in
    let room : b < length (vec_items list) = omega (arith, c.loop-block-test.true, list.ok.0, c.loop-block.tables.whom, inv.0) in (
      c.export-audience.ensures.blocks ∙ inv.0,
      c.export-audience.ensures.held ∙ (λ x. retold (place x) me (only b) ((then ∙ inv.1) x)) ∙ export_more (world_for world t) me s b,
      subst (λ l. ToldAll (world_for world t) me s (set (vec_items l) b c.export-audience.result) (b + 1)) (sym kept) (told_more (world_for world t) me s b (vec_items list) c.export-audience.result room inv.2 (λ k. c.export-audience.ensures.whom k ∙ (λ x. sends (place x) me (only b) ((then ∙ inv.1) x) b k))),
    )
