-- What was prepared at its place: the networks stand as before, each with its number and tables of all blocks. Assumes nothing.
use Rattle.std.proofs.Common.{◌≡◌, ℕ, List, Option, Some, None, map, length, get_or, set, sym, refl, ap, ◌∙◌, subst, vec_items, length-set}
use Rattle.simulation.specs.Whole.{blocks_in, number_of}
use Rattle.simulation.specs.declared.network.Network.{Network}
use Rattle.simulation.specs.Simulated.{Fits, with_network, world_of}
use Rattle.simulation.specs.declared.simulation.Simulation.{Simulation}
use Rattle.simulation.proofs.Wholes.{blocks_set, number_set}

pub placed_length : (xs : List Network) (o : Option Network) → length (with_network xs o) ≡ length xs
placed_length xs None = refl
placed_length xs (Some y) = length-set xs (number_of y) y

pub placed_numbers : (x : Simulation) (o : Option Network) (i : ℕ) → get_or (map number_of (with_network (vec_items x.networks) o)) i i ≡ i
placed_numbers x None i = x.numbers i
placed_numbers x (Some y) i = number_set (vec_items x.networks) (number_of y) y refl x.numbers i

pub placed_blocks : (x : Simulation) (o : Option Network) → Fits x o → (i : ℕ) → get_or (map blocks_in (with_network (vec_items x.networks) o)) i (world_of x).blocks ≡ (world_of x).blocks
placed_blocks x None fits i = x.same i
placed_blocks x (Some y) fits i = blocks_set (vec_items x.networks) (number_of y) y (world_of x).blocks fits.1 x.same i

-- the place of its own number
pub placed_there : (xs : List Network) (o : Option Network) (y : Network) (n : ℕ) → o ≡ Some y → n ≡ number_of y → set xs n y ≡ with_network xs o
placed_there xs o y n is number = ap (λ k. set xs k y) number ∙ ap (with_network xs) (sym is)

pub fits_there : (x : Simulation) (o : Option Network) (y : Network) → o ≡ Some y → Fits x o → Fits x (Some y)
fits_there x o y is fits = subst (Fits x) is fits
