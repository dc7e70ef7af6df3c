-- The oldest is taken out, and the network at its place steps, or passes a packet on.
use Rattle.std.proofs.Common.{◌&&◌, ltb, arith, ◌≡◌, true, ◌+◌, ◌++◌, take, drop, length, ◌<◌, vec_items, sym, refl, ap, ◌∙◌, subst}
use Rattle.std.proofs.lemmas.Bool.{and_parts, ltb-true}
use Rattle.std.proofs.lemmas.List.{get_or_default}
use Rattle.advertisement.specs.Updates.{news}
use Rattle.model.specs.Run.{packet, update}
use Rattle.forwarding.specs.Forwarding.{packet_of}
use Rattle.simulation.specs.Posting.{blank}
use Rattle.simulation.specs.Posts.{item_of, posts}
use Rattle.simulation.specs.declared.letter.Letter.{Letter}
use Rattle.simulation.proofs.Posted.{Front, oldest_front}
use Rattle.simulation.specs.Simulated.{MakesHeard, letter_of, lookup_of, world_of}
use Rattle.simulation.specs.Whole.{local_at}
use Rattle.simulation.specs.Steps.{both}
use Rattle.simulation.specs.declared.prepared.Prepared.{Prepared}
use Rattle.simulation.proofs.Carried.{got_as, inside_on, not_refused}
use Rattle.simulation.proofs.Flights.{lost_one}
use Rattle.simulation.proofs.Wholes.{carried_prepared, heard_prepared, blocks_at, local_here, number_at}
use Rattle.simulation.proofs.Lowest.{oldest_inside}
use Rattle.relations.specs.Sound.{networks}
use Rattle.simulation.proofs.simulation.Simulation.prepared.Goals as goal
use Rattle.simulation.proofs.simulation.Simulation.prepared.Goals.{in-Update+in_ok-network-in-Update, in-Packet+in_ok-ending-in-Packet}

pub index-hearer-requires : goal.index-hearer-requires
index-hearer-requires c =
    let x = c.args.self.now in
    let letter = c.index.result.now in
    let is : letter ≡ letter_of x c.args.place = c.index.ensures ∙ get_or_default (vec_items x.letters) c.args.place letter blank c.requires.there in
    let n = networks x.relations in
    let below : (ltb letter.from n && ltb letter.to n) ≡ true = oldest_inside x c.args.place letter is c.requires in
    omega (arith, ltb-true letter.to n (and_parts (ltb letter.from n) (ltb letter.to n) below).1, x.all)

pub returns : goal.returns
returns c =
    let x = c.args.self.now in
    let k = c.args.place in
    let ls = vec_items x.letters in
    let letter : Letter = c.index.result.now in
    let is : letter ≡ letter_of x k = c.index.ensures ∙ get_or_default ls k letter blank c.requires.there in
    let old : Front letter.from letter.to k (item_of letter.item) (posts ls) = subst (λ l. Front l.from l.to k (item_of l.item) (posts ls)) (sym is) (oldest_front _ _ k ls c.requires) in
    let left = c.in_ok-letters.ensures ∙ (λ z. take k (c.deref.ensures.value z) ++ drop (k + 1) (c.deref.ensures.value z)) in
    let below : both (world_of x) letter.from letter.to ≡ true = oldest_inside x k letter is c.requires in
    let ends = and_parts (ltb letter.from (networks x.relations)) (ltb letter.to (networks x.relations)) below in
    let hearer = c.index-hearer.result.now in
    let at = c.index-hearer.ensures in
    subst (λ l. MakesHeard x l.from l.to (record { network = c.match-item.network.0; letters = c.match-item.letters; ending = c.match-item.network.1 })) is (elim c.match-item.branch [
      | in-Update+in_ok-network-in-Update w ↦
          let what : item_of letter.item ≡ update (news w.in-Update.update) = ap item_of w.in-Update.is in
          subst {A = Prepared} (MakesHeard x letter.from letter.to) (λ z. record { network = (sym w.network-is z).0; letters = sym w.letters-is z; ending = (sym w.network-is z).1 })
          (heard_prepared x letter.from letter.to k hearer below at (news w.in-Update.update) w.in_ok-network-in-Update.network _ _ (subst (λ y. Front letter.from letter.to k y (posts ls)) what old) left w.world.result (record { relations = w.world.ensures.relations; homes = w.world.ensures.homes }) w.in_ok-network-in-Update.ensures)
      | in-Packet+in_ok-ending-in-Packet w ↦
          let p = packet_of w.in-Packet.packet in
          let what : item_of letter.item ≡ packet p = ap item_of w.in-Packet.is in
          let front = subst (λ y. Front letter.from letter.to k y (posts ls)) what old in
          let clear = not_refused x letter.from letter.to (packet p) _ (lost_one letter.from letter.to k (packet p) (posts ls) front) (ltb-true letter.from (networks x.relations) ends.0) in
          let there = ltb-true letter.to (networks x.relations) ends.1 in
          let long : letter.to < length (vec_items x.networks) = omega (arith, there, x.all, x.networks.ok.0) in
          let number = number_at (vec_items x.networks) letter.to hearer long at (x.numbers letter.to) in
          let blocks = blocks_at (vec_items x.networks) letter.to hearer (world_of x).blocks long at (x.same letter.to) in
          let own = local_here (vec_items x.networks) letter.to hearer long at in
          let carried = got_as x w.world-in-Packet.result (record { relations = w.world-in-Packet.ensures.relations; homes = w.world-in-Packet.ensures.homes }) letter.to hearer w.blocks-blocks.result number blocks own w.blocks-blocks.ensures.firsts w.blocks-blocks.ensures.lasts letter.from p _ _ _ clear w.in_ok-ending-in-Packet.ensures in
          subst {A = Prepared} (MakesHeard x letter.from letter.to) (λ z. record { network = (sym w.network-is z).0; letters = sym w.letters-is z; ending = (sym w.network-is z).1 })
          (carried_prepared x letter.from letter.to k hearer below at p _ _ w.in_ok-ending-in-Packet.ending front left carried (inside_on (world_of x) (lookup_of x) letter.to (local_at (vec_items x.networks) letter.to) p there _ refl))
    ])
