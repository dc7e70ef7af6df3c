-- What a row of the table says. Assumes nothing.
use Rattle.std.specs.Prelude.{◌≡◌, ℕ, suc, ◌<◌, ◌≤◌, ◌&&◌, cond, List, length, Some, None, nat_le, slice_index_or}
use Rattle.model.specs.Cycles.{First}
use Rattle.model.specs.Ends.{fate}
use Rattle.model.specs.Export.{tells}
use Rattle.model.specs.Packets.{Packet, Trip, arrives, trip, Lookup}
use Rattle.model.specs.Run.{State, Quiescent, Reach, begin, links, fresh}
use Rattle.model.specs.Selection.{Choice, nothing, Said}
use Rattle.model.specs.Stable.{stable}
use Rattle.model.specs.World.{Sound, rel_at}
use Rattle.cases.specs.Plays.{Plays, Stage}
use Rattle.cases.specs.Settings.{Setting, Tie, tied, up, world}

-- networks among whose ties there is a cycle of customers
pub record Cyclic : Type 0 where
  pub networks : ℕ
  pub ties : List Tie
  pub cycle : List ℕ

pub data Row : Type 0 where
  -- what each network goes by in the stable routing
  settles : Setting → List Choice → Row
  -- what the first network then tells the second
  said : Setting → ℕ → ℕ → Said → Row
  -- a packet at a network arrives after so many steps
  arrived : Setting → ℕ → ℕ → Row
  -- a packet that people of a network send to an address ends so
  sent : Setting → ℕ → ℕ → Trip → Row
  -- the cycle that is told of ties
  cyclic : Cyclic → Row
  -- how it stands after each stage of a run from the beginning
  plays : Setting → List Stage → Row

-- the ties are sound, and each network goes by its choice of the list
pub record Settles (s : Setting) (choices : List Choice) : Type 0 where
  pub sound : Sound (world s)
  pub each : length choices ≡ s.networks
  pub chosen : (i : ℕ) → i < s.networks → stable (world s) (up s) 0 i ≡ slice_index_or choices i nothing

-- whenever no update is in flight and these links are up, a packet with enough hops left arrives after exactly so many
-- steps
abbrev pub Arrived : Setting → ℕ → ℕ → Type 0
Arrived s i steps =
    (at : Lookup) (t : State) (p : Packet) → Reach (world s) at t → Quiescent t → ((i j : ℕ) → links t i j ≡ up s i j) →
    at p.address ≡ Some 0 → steps ≤ p.hops → trip (world s) at t.locals (suc steps) 0 i p ≡ arrives s.home steps

-- the only block: the addresses from 10.0.0.0 to 10.0.0.255
abbrev pub first_address : ℕ
first_address = 167772160

abbrev pub last_address : ℕ
last_address = 167772415

abbrev pub in_block : Lookup
in_block address = cond (nat_le first_address address && nat_le address last_address) (Some 0) None

-- whenever no update is in flight and these links are up, that is the fate of the packet
abbrev pub Sent : Setting → ℕ → ℕ → Trip → Type 0
Sent s i address end =
    (t : State) → Reach (world s) in_block t → Quiescent t → ((i j : ℕ) → links t i j ≡ up s i j) →
    fate (world s) in_block t.locals i (fresh address) ≡ record { address = address; trip = end }

abbrev pub Holds : Row → Type 0
Holds (settles s choices) = Settles s choices
Holds (said s i j says) = tells (rel_at (world s) i) (up s i) i j (stable (world s) (up s) 0 i) ≡ says
Holds (arrived s i steps) = Arrived s i steps
Holds (sent s i address end) = Sent s i address end
Holds (cyclic c) = First (tied c.ties) c.cycle
Holds (plays s stages) = (at : Lookup) → Plays s at begin stages
