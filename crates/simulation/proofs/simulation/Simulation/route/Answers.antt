-- The network's own route.
use Rattle.std.proofs.Common.{◌≡◌, ◌<◌, length, get_or, vec_items, sym, ap, ◌∙◌, arith}
use Rattle.std.proofs.lemmas.Bool.{ltb-true}
use Rattle.relations.specs.Sound.{networks}
use Rattle.simulation.proofs.Readings.{goes_here}
use Rattle.simulation.proofs.simulation.Simulation.route.Goals as goal

pub returns : goal.returns
returns c =
    let me = c.args.self.now in
    let j = c.args.network in
    let here = c.in-Some.network.now in
    let found = c.in-Some.ensures.lookup in
    let items = c.deref.ensures.value in
    let there : j < length (vec_items me.networks) = omega (arith, ltb-true j _ (sym found.0), ap length items) in
    let below : j < networks me.relations = omega (arith, there, me.networks.ok.0, me.all) in
    let is : here ≡ get_or (vec_items me.networks) j here = found.1 ∙ ap (λ l. get_or l j here) items in
    goes_here me c.world.result (record { relations = c.world.ensures.relations; homes = c.world.ensures.homes }) j c.args.block here _ there below is c.route.ensures
