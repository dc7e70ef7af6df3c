-- What was prepared takes its place.
use Rattle.std.proofs.Common.{arith, vec_items, sym, refl, ap, ◌∙◌}
use Rattle.std.specs.Option.{option_map}
use Rattle.forwarding.specs.Forwarding.{ended_of}
use Rattle.std.proofs.lemmas.Result.{err_from_is_err_and}
use Rattle.simulation.proofs.Lessening.{heard_lessens}
use Rattle.simulation.proofs.Reaching.{heard_ready}
use Rattle.simulation.proofs.Wholes.{crowded}
use Rattle.simulation.proofs.simulation.Simulation.hear.Goals as goal

pub put-requires : goal.put-requires
put-requires c = let done = c.in_ok-prepared.ensures in heard_ready c.args.self.now c.args.from c.args.to c.in_ok-prepared.prepared done.0 done.1 done.2

pub returns : goal.returns
returns c =
    let x = c.args.self.now in
    let done = c.in_ok-prepared.ensures in
    let full = crowded x _ (vec_items c.in_ok-prepared.prepared.letters) _ _ done.2.within (sym c.put.ensures.state) c.deref.ensures.value in
    let state = c.put.ensures.state ∙ done.2.state in
    record {
      world = c.put.ensures.world;
      blocks = c.put.ensures.blocks;
      played = record { below = done.0; some = done.1; room = omega (arith, full, c.in_ok-have_room.ensures); step = state; end = ap (option_map ended_of) c.put.ensures.ending ∙ done.2.ended };
      falls = heard_lessens x c.args.from c.args.to _ done.0 done.1 state;
    }

pub returns-in_err-have_room-clause-played : goal.returns-in_err-have_room-clause-played
returns-in_err-have_room-clause-played c =
    let done = c.in_ok-prepared.ensures in
    let full = crowded c.args.self.now _ (vec_items c.in_ok-prepared.prepared.letters) _ _ done.2.within done.2.state c.deref.ensures.value in
    let is_err = err_from_is_err_and c.from_residual-in_err-have_room.result c.from_residual-in_err-have_room.ensures.1 in
    let many = c.in_err-have_room.ensures in
    rw (is_err.1, is_err.2, many.0) ((done.0, done.1, omega (arith, full, many.1)), refl)
