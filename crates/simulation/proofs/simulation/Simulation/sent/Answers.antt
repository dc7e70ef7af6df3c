-- The packet goes behind what is in flight, or ends.
use Rattle.std.proofs.Common.{◌≡◌, ◌<◌, length, get_or, vec_items, refl, arith, rules}
use Rattle.relations.specs.Sound.{networks}
use Rattle.model.specs.Run.{fresh}
use Rattle.simulation.specs.Whole.{local_at}
use Rattle.simulation.specs.Simulated.{lookup_of, world_of}
use Rattle.simulation.proofs.Carried.{carried_as, inside_on}
use Rattle.simulation.proofs.Wholes.{blocks_at, local_here, number_at, sent_prepared}
use Rattle.simulation.proofs.simulation.Simulation.sent.Goals as goal

pub returns : goal.returns
returns c =
    let x = c.args.self.now in
    let xs = vec_items x.networks in
    let i = c.args.network in
    let sender = c.in-Some.sender.now in
    let p = fresh c.args.address.0 in
    let long : i < length xs = search rules in
    let there : i < networks x.relations = omega (arith, long, x.all, x.networks.ok.0) in
    let at : sender ≡ get_or xs i sender = search rules in
    let copied : vec_items c.in_ok-letters.letters ≡ vec_items x.letters = search rules in
    let number = number_at xs i sender long at (x.numbers i) in
    let blocks = blocks_at xs i sender (world_of x).blocks long at (x.same i) in
    let own = local_here xs i sender long at in
    let carried = carried_as x c.world.result (record { relations = c.world.ensures.relations; homes = c.world.ensures.homes }) i sender c.blocks-blocks.result number blocks own c.blocks-blocks.ensures.firsts c.blocks-blocks.ensures.lasts p _ _ _ c.in_ok-ending.ensures in (
      there,
      sent_prepared x i sender p _ _ c.in_ok-ending.ending number copied carried (inside_on (world_of x) (lookup_of x) i (local_at xs i) p there _ refl),
    )
