-- What went over the link is lost, and both ends step.
use Rattle.std.proofs.Common.{◌≡◌, true, ap, ◌∙◌, rules}
use Rattle.std.proofs.lemmas.Bool.{and_parts, ltb-true}
use Rattle.relations.specs.Sound.{relation}
use Rattle.model.specs.Relations.{related}
use Rattle.simulation.specs.Posts.{cut, posts}
use Rattle.simulation.proofs.Wholes.{turned_prepared}
use Rattle.simulation.proofs.simulation.Simulation.turned.Goals as goal

pub returns : goal.returns
returns c =
    let x = c.args.self.now in
    let i = c.args.one in
    let j = c.args.other in
    let tied : related (relation x.relations i j) ≡ true = search rules in
    let both = and_parts _ _ c.in_ok-both_exist.ensures in
    let left = c.in_ok-letters.ensures ∙ ap (λ l. cut i j (posts l)) c.deref.ensures.value in (
      c.in_ok-both_exist.ensures,
      tied,
      turned_prepared x i j c.args.up c.index.result.now c.in_ok-first.first c.index-2.result.now c.in_ok-first.second _ _ (ltb-true i _ both.0) (ltb-true j _ both.1) c.index.ensures c.index-2.ensures left c.world.result (record { relations = c.world.ensures.relations; homes = c.world.ensures.homes }) c.in_ok-first.ensures,
    )
