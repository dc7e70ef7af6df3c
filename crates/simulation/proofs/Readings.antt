-- What the network at a place goes by is what it goes by in the whole. Assumes nothing.
use Rattle.std.proofs.Common.{◌≡◌, ℕ, ◌<◌, cond, ◌&&◌, ltb, length, get_or, vec_items, sym, ap, ◌∙◌}
use Rattle.std.proofs.lemmas.Bool.{lt-ltb}
use Rattle.model.specs.Local.{choice}
use Rattle.model.specs.Selection.{Choice, nothing}
use Rattle.selection.specs.declared.world.World.{World as Lent}
use Rattle.simulation.specs.Shown.{goes_by}
use Rattle.simulation.specs.Simulated.{state_of, world_of}
use Rattle.simulation.specs.Whole.{blocks_in, local, local_at, number_of, world_at}
use Rattle.simulation.specs.declared.network.Network.{Network}
use Rattle.simulation.specs.declared.simulation.Simulation.{Simulation}
use Rattle.simulation.proofs.Wholes.{IsLent, blocks_at, local_here, number_at, place_is}

pub goes_here : (m : Simulation) (world : Lent) → IsLent m world → (j b : ℕ) (x : Network) (answer : Choice) → j < length (vec_items m.networks) → j < (world_of m).n → x ≡ get_or (vec_items m.networks) j x → answer ≡ cond (ltb b (blocks_in x)) (choice (world_at world x) (number_of x) (local x) b) nothing → answer ≡ goes_by (world_of m) (state_of m) j b
goes_here m world lent j b x answer l below e h =
    let xs = vec_items m.networks in
    let w = world_of m in
    let own : blocks_in x ≡ w.blocks = blocks_at xs j x w.blocks l e (m.same j) in
    let place : world_at world x ≡ w = place_is m world x lent own in
    h ∙
    (λ z. cond (ltb b (own z)) (choice (place z) (number_at xs j x l e (m.numbers j) z) (local_here xs j x l e z) b) nothing) ∙
    sym (ap (λ t. cond (t && ltb b w.blocks) (choice w j (local_at xs j) b) nothing) (lt-ltb j w.n below))
