-- What went over the link is forgotten, and every block told anew: the local step.
use Rattle.std.proofs.Common.{◌≡◌, ◌<◌, true, None, sym, ◌∙◌, subst, rules}
use Rattle.relations.specs.Sound.{relation}
use Rattle.model.specs.Relations.{related}
use Rattle.model.specs.Hearing.{every, forgotten, turning_fault}
use Rattle.model.specs.Local.{retold, sends}
use Rattle.links.specs.Held.{held, number_of, world_for}
use Rattle.links.proofs.Receiving.{same_world}
use Rattle.links.proofs.Turning.{forgotten_is, turned_is}
use Rattle.model.proofs.Faults.{no_turning_fault}
use Rattle.links.proofs.router.Router.turn.Goals as goal

pub returns : goal.returns
returns c =
    let world = c.args.world in
    let t = c.args.tables.now in
    let me = number_of c.args.self in
    let s = held c.args.self t in
    let then = c.forget.new.tables in
    let place = same_world world then t c.forget.ensures.blocks in
    let lost : held c.with_link-router.result then ≡ forgotten c.args.other c.args.up s = forgotten_is s (held c.with_link-router.result then) c.args.other c.args.up c.with_link-router.ensures.links c.forget.ensures.received c.forget.ensures.advertised in
    let number = c.with_link-router.ensures.number in
    let tied : related (relation world.relations.now me c.args.other) ≡ true = search rules in
    let none : turning_fault (world_for world t) me c.args.other ≡ None = no_turning_fault (world_for world t) me c.args.other (search rules) tied in
    record {
      number = number;
      blocks = c.export_all.ensures.blocks ∙ c.forget.ensures.blocks;
      held = c.export_all.ensures.held ∙ (λ x. retold (place x) (number x) every (lost x)) ∙ turned_is (world_for world t) me c.args.other c.args.up s none;
      answer = (none, λ b k d h. c.export_all.ensures.whom b k d (subst (λ l. b < l) (sym c.forget.ensures.blocks) h) ∙ (λ x. sends (place x) (number x) every (lost x) b k));
      kept = tt;
    }
