-- The facts of the whole hold of what takes its place.
use Rattle.std.proofs.Common.{◌≡◌, vec_items, subst, sym, ap, ◌∙◌, map, get_or, length, arith}
use Rattle.model.specs.Run.{Reach}
use Rattle.simulation.specs.Whole.{blocks_in, number_of, whole}
use Rattle.simulation.specs.Simulated.{lookup_of, with_network, world_of}
use Rattle.simulation.proofs.Placing.{placed_blocks, placed_length, placed_numbers, placed_there}
use Rattle.simulation.proofs.simulation.Simulation.put.Goals as goal
use Rattle.simulation.proofs.simulation.Simulation.put.Goals.{in-Some, in_default}

pub invariant_of-self : goal.invariant_of-self
invariant_of-self c =
    let x = c.args.self.now in
    let xs = vec_items x.networks in
    let o = c.args.prepared.network in
    let v = c.match-network.self.1.1.1.0 in
    let nets : vec_items v ≡ with_network xs o = elim c.match-network.branch [
      | in-Some w ↦ ap (λ t. vec_items t.1.1.1.0) w.self-is ∙ placed_there xs o w.in-Some.network w.number-number.result w.in-Some.is w.number-number.ensures
      | in_default w ↦ ap (λ t. vec_items t.1.1.1.0) w.self-is ∙ ap (with_network xs) (sym w.in_default.is)
    ] in
    record {
      all = omega (arith, v.ok.0, ap length nets, placed_length xs o, x.networks.ok.0, x.all);
      few = x.few;
      small = x.small;
      numbers = λ i. ap (λ ns. get_or (map number_of ns) i i) nets ∙ placed_numbers x o i;
      same = λ i. ap (λ ns. get_or (map blocks_in ns) i (world_of x).blocks) nets ∙ placed_blocks x o c.requires.fits i;
      within = c.requires.within;
      reached = subst (λ ns. ∥ Reach (world_of x) (lookup_of x) (whole ns (vec_items c.args.prepared.letters)) ∥₁) (sym nets) c.requires.reached;
    }
