-- What a simulation holds, in the terms of the model of a run, and a step that is prepared. Assumes nothing.
use Rattle.std.specs.Prelude.{◌≡◌, ℕ, ◌<◌, true, List, Some, None, Option, vec_items, slice_set}
use Rattle.std.specs.Option.{option_map}
use Rattle.relations.specs.Sound.{networks}
use Rattle.blocks.specs.declared.block_list.BlockList.{BlockList}
use Rattle.model.specs.Packets.{Lookup}
use Rattle.model.specs.Run.{Reach, State, posted}
use Rattle.model.specs.World.{World}
use Rattle.model.specs.Ends.{Ended, end_heard, end_posted}
use Rattle.forwarding.specs.Forwarding.{ended_of}
use Rattle.simulation.specs.Posting.{letter_at}
use Rattle.simulation.specs.Posts.{inside, posts}
use Rattle.simulation.specs.Whole.{blocks_in, lookup_in, number_of, whole, world_with}
use Rattle.simulation.specs.declared.letter.Letter.{Letter}
use Rattle.simulation.specs.declared.network.Network.{Network}
use Rattle.simulation.specs.Steps.{hearing}
use Rattle.simulation.specs.declared.prepared.Prepared.{Prepared}
use Rattle.simulation.specs.declared.simulation.Simulation.{Simulation}

abbrev pub world_of : Simulation → World
world_of x = world_with x.relations x.blocks

-- the blocks, with their homes
abbrev pub blocks_of : Simulation → BlockList
blocks_of x = x.blocks

-- the block that an address is in, by the list of blocks
abbrev pub lookup_of : Simulation → Lookup
lookup_of x = lookup_in x.blocks

abbrev pub state_of : Simulation → State
state_of x = whole (vec_items x.networks) (vec_items x.letters)

-- the letter at place k of what is in flight
abbrev pub letter_of : Simulation → ℕ → Letter
letter_of x k = letter_at (vec_items x.letters) k

-- one network takes the place of its number, or none does
abbrev pub with_network : List Network → Option Network → List Network
with_network xs None = xs
with_network xs (Some y) = slice_set xs (number_of y) y

-- one of the networks that there are, with the homes that there are
abbrev pub Fits : Simulation → Option Network → Type 0
Fits x None = Unit {0}
Fits x (Some y) = (number_of y < networks x.relations) × (blocks_in y ≡ (world_of x).blocks)

-- a step that is prepared: this is the state then, and this end comes
pub record Makes (x : Simulation) (next : State) (end : Option Ended) (a : Prepared) : Type 0 where
  pub fits : Fits x a.network
  pub within : inside (networks x.relations) (posts (vec_items a.letters)) ≡ true
  pub state : whole (with_network (vec_items x.networks) a.network) (vec_items a.letters) ≡ next
  pub ended : option_map ended_of a.ending ≡ end

-- network j hears the oldest from i
abbrev pub MakesHeard : Simulation → ℕ → ℕ → Prepared → Type 0
MakesHeard x i j a =
    Makes x (hearing (world_of x) (lookup_of x) i j (state_of x))
    (end_heard (world_of x) (lookup_of x) i j (state_of x)) a

-- the people of network i send a packet
abbrev pub MakesSent : Simulation → ℕ → ℕ → Prepared → Type 0
MakesSent x i address a =
    Makes x (posted (world_of x) (lookup_of x) i address (state_of x))
    (end_posted (world_of x) (lookup_of x) i address (state_of x)) a

-- the next state, with two networks and all letters made anew
pub record MakesTwo (x : Simulation) (i j : ℕ) (next : State) (y z : Network) (ls : List Letter) : Type 0 where
  pub number : number_of y ≡ i
  pub number2 : number_of z ≡ j
  pub blocks : blocks_in y ≡ (world_of x).blocks
  pub blocks2 : blocks_in z ≡ (world_of x).blocks
  pub within : inside (networks x.relations) (posts ls) ≡ true
  pub state : whole (slice_set (slice_set (vec_items x.networks) j z) i y) ls ≡ next

-- what may take the place of what there is
pub record Ready (x : Simulation) (a : Prepared) : Type 0 where
  pub fits : Fits x a.network
  pub within : inside (networks x.relations) (posts (vec_items a.letters)) ≡ true
  pub reached : ∥ Reach (world_of x) (lookup_of x)
      (whole (with_network (vec_items x.networks) a.network) (vec_items a.letters)) ∥₁
