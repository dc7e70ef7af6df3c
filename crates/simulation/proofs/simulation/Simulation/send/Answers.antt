-- What was prepared takes its place.
use Rattle.std.proofs.Common.{arith, vec_items, [], ◌∷◌, ◌++◌, sym, refl, ap, ◌∙◌, subst}
use Rattle.std.specs.List.Sorted.{IsPermutation}
use Rattle.model.specs.Ends.{end_posted, ends, fate}
use Rattle.model.specs.Run.{fresh}
use Rattle.model.specs.Flight.{fates}
use Rattle.delivery.proofs.Carrying.{posting_adds}
use Rattle.simulation.specs.Simulated.{lookup_of, state_of, world_of}
use Rattle.simulation.proofs.Delivered.{fate_of_sent}
use Rattle.std.specs.Option.{option_map}
use Rattle.forwarding.specs.Forwarding.{ended_of}
use Rattle.std.proofs.lemmas.Result.{err_from_is_err_and}
use Rattle.simulation.proofs.Reaching.{sent_ready}
use Rattle.simulation.proofs.Wholes.{crowded}
use Rattle.simulation.proofs.simulation.Simulation.send.Goals as goal

pub put-requires : goal.put-requires
put-requires c = let done = c.in_ok-prepared.ensures in sent_ready c.args.self.now c.args.network c.args.address.0 c.in_ok-prepared.prepared done.0 done.1

pub returns : goal.returns
returns c =
    let x = c.args.self.now in
    let i = c.args.network in
    let a = c.args.address.0 in
    let w = world_of x in
    let at = lookup_of x in
    let s = state_of x in
    let done = c.in_ok-prepared.ensures in
    let state = c.put.ensures.state ∙ done.1.state in
    let full = crowded x _ (vec_items c.in_ok-prepared.prepared.letters) _ _ done.1.within (sym c.put.ensures.state) c.deref.ensures.value in
    record {
      world = c.put.ensures.world;
      blocks = c.put.ensures.blocks;
      played = record { below = done.0; room = omega (arith, full, c.in_ok-have_room.ensures); step = state; end = ap (option_map ended_of) c.put.ensures.ending ∙ done.1.ended };
      adds = subst (λ t. IsPermutation (fates w at s ++ fate w at s.locals i (fresh a) ∷ []) (fates w at t ++ ends (end_posted w at i a s))) (sym state) (posting_adds w at s i a done.0);
      fate = fate_of_sent x i a done.0;
    }

pub returns-in_err-have_room-clause-played : goal.returns-in_err-have_room-clause-played
returns-in_err-have_room-clause-played c =
    let done = c.in_ok-prepared.ensures in
    let full = crowded c.args.self.now _ (vec_items c.in_ok-prepared.prepared.letters) _ _ done.1.within done.1.state c.deref.ensures.value in
    let is_err = err_from_is_err_and c.from_residual-in_err-have_room.result c.from_residual-in_err-have_room.ensures.1 in
    let many = c.in_err-have_room.ensures in
    rw (is_err.1, is_err.2, many.0) ((done.0, omega (arith, full, many.1)), refl)
