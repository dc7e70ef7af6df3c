-- Past all other tests the fault that is told is that of the way.
use Rattle.std.proofs.Common.{sym, ap, ◌∙◌, subst, rules}
use Rattle.model.specs.Paths.{below}
use Rattle.links.specs.Answers.{Refuses}
use Rattle.links.specs.Held.{held, number_of, world_for}
use Rattle.links.proofs.Faults.{way_told}
use Rattle.links.proofs.router.Router.check_announcement.Goals as goal

pub returns : goal.returns
returns c =
    let a = c.args.announced.now in
    let w = world_for c.args.world c.args.tables.now in
    let s = held c.args.self c.args.tables.now in
    let path = c.in_ok-path.path.now in
    let there = ap (λ n. below n path) (sym c.networks.ensures) ∙ sym c.if-not-below.ensures in
    let way = way_told w (number_of c.args.self) s c.args.from a path (search rules) (search rules) there c.in_ok-check_teller.ensures in
    subst (λ f. Refuses f c.check_way.result) way c.check_way.ensures
