-- What a message says: of which network, and what. Assumes nothing.
use Rattle.std.specs.Prelude.{ℕ, ◌<◌, ◌^◌, Bool}
use Rattle.model.specs.Selection.{Said}
use Rattle.model.specs.Local.{Update}
use Rattle.model.specs.Packets.{Packet}

-- an update, a packet, or a link of two networks that turns: the other end, and whether it is up
pub data Thing : Type 0 where
  update : Update → Thing
  packet : Packet → Thing
  turn : ℕ → Bool → Thing

-- the network is where it comes from or goes to
pub record Message : Type 0 where
  pub network : ℕ
  pub thing : Thing

-- what is said of a block, to a network or from it
abbrev pub update_message : ℕ → ℕ → Said → Message
update_message network block says = record { network = network; thing = update (record { block = block; says = says }) }

-- a packet, to a network or from it
abbrev pub packet_message : ℕ → Packet → Message
packet_message network p = record { network = network; thing = packet p }

-- an address has 32 bits
abbrev pub IsAddress : ℕ → Type 0
IsAddress address = address < 2 ^ 32
