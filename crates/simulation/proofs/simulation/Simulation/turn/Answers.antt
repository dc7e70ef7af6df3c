-- What was prepared takes its place.
use Rattle.std.proofs.Common.{arith, set, vec_items, sym, refl, subst}
use mathlib.Core.Logic.{∥∥₁_map}
use Rattle.std.proofs.lemmas.Result.{err_from_is_err_and}
use Rattle.model.specs.Run.{Reach}
use Rattle.simulation.specs.Simulated.{lookup_of, state_of, world_of}
use Rattle.simulation.proofs.Reaching.{turned_reach}
use Rattle.simulation.proofs.Wholes.{blocks_set, crowded, number_set}
use Rattle.simulation.proofs.simulation.Simulation.turn.Goals as goal

pub invariant_of-self : goal.invariant_of-self
invariant_of-self c =
    let x = c.args.self.now in
    let i = c.args.one in
    let j = c.args.other in
    let y = c.in_ok-first.first in
    let z = c.in_ok-first.second in
    let xs = vec_items x.networks in
    let done = c.in_ok-first.ensures in
    let numbers = number_set (set xs j z) i y done.2.number (number_set xs j z done.2.number2 x.numbers) in
    let blocks = blocks_set (set xs j z) i y (world_of x).blocks done.2.blocks (blocks_set xs j z (world_of x).blocks done.2.blocks2 x.same) in
    let reached = ∥∥₁_map x.reached (λ r. subst (Reach (world_of x) (lookup_of x)) (sym done.2.state) (turned_reach (world_of x) (lookup_of x) i j c.args.up (state_of x) (x.relations.matrix.apart i) done.0 done.1 r)) in
    record { all = x.all; few = x.few; small = x.small; numbers = numbers; same = blocks; within = done.2.within; reached = reached }

pub returns : goal.returns
returns c =
    let x = c.args.self.now in
    let done = c.in_ok-first.ensures in
    let full = crowded x (set (set (vec_items x.networks) c.args.other c.in_ok-first.second) c.args.one c.in_ok-first.first) (vec_items c.in_ok-first.letters) _ _ done.2.within refl c.deref.ensures.value in
    record { world = refl; blocks = refl; played = record { below = done.0; tied = done.1; room = omega (arith, full, c.in_ok-have_room.ensures); step = done.2.state } }

pub returns-in_err-have_room-clause-played : goal.returns-in_err-have_room-clause-played
returns-in_err-have_room-clause-played c =
    let done = c.in_ok-first.ensures in
    let full = crowded c.args.self.now _ (vec_items c.in_ok-first.letters) _ _ done.2.within done.2.state c.deref.ensures.value in
    let is_err = err_from_is_err_and c.from_residual-in_err-have_room.result c.from_residual-in_err-have_room.ensures.1 in
    let many = c.in_err-have_room.ensures in
    rw (is_err.1, is_err.2, many.0) ((done.0, done.1, omega (arith, full, many.1)), refl)
