-- What a router answers of a packet, in the terms of the rules. Assumes nothing.
use Rattle.std.specs.Prelude.{◌≡◌, ℕ, Some, None, Ok, Err, Option, Result}
use Rattle.blocks.specs.declared.blocks.Blocks.{Blocks}
use Rattle.model.specs.Ends.{Ended}
use Rattle.model.specs.Local.{Local}
use Rattle.model.specs.Packets.{Lookup, arrived, dropped, handed, forwarded, packet_fault}
use Rattle.model.specs.Packets as rules
use Rattle.model.specs.Ports.{Port}
use Rattle.model.specs.World.{World}
use Rattle.model.specs.declared.fault.Fault.{Fault}
use Rattle.selection.specs.declared.world.World.{World as Lent}
use Rattle.links.specs.Held.{blocks_of, held, number_of, world_for}
use Rattle.links.specs.declared.router.Router.{Router}
use Rattle.links.specs.declared.tables.Tables.{Tables}
pub use Rattle.forwarding.specs.Lookup.{below, lookup}
use Rattle.forwarding.specs.declared.packet.Packet.{Packet}
use Rattle.forwarding.specs.declared.packet.Forwarded.{Forwarded}
use Rattle.forwarding.specs.declared.packet.Forwarded.TheVariants.{Arrived, Dropped, Handed}
use Rattle.forwarding.specs.declared.packet.Ending.{Ending}
use Rattle.forwarding.specs.declared.packet.Fate.{Fate}
use Rattle.forwarding.specs.declared.packet.Fate.TheVariants as fate

abbrev pub packet_of : Packet → rules.Packet
packet_of p = record { address = p.address.0; hops = p.hops }

abbrev pub forwarded_of : Forwarded → rules.Forwarded
forwarded_of Arrived = arrived
forwarded_of (Dropped why) = dropped why
forwarded_of (Handed j p) = handed j (packet_of p)

abbrev pub trip_of : ℕ → ℕ → Fate → rules.Trip
trip_of network steps fate.Arrived = rules.arrives network steps
trip_of network steps (fate.Dropped why) = rules.lost network steps why

abbrev pub ended_of : Ending → Ended
ended_of e = record { address = e.address.0; trip = trip_of e.network e.steps e.fate }

-- what becomes of a packet at a router, by what all networks share, its tables and the blocks
abbrev pub forwarded_by : Router → Lent → Tables → Blocks → rules.Packet → rules.Forwarded
forwarded_by r world t blocks p =
    forwarded (world_for world t) (lookup (blocks_of t) blocks) (number_of r) (held r t) p

-- why a packet that it gets at port j is refused
abbrev pub sender_fault : Router → Lent → Tables → Port → Option Fault
sender_fault r world t j = packet_fault (world_for world t) (number_of r) (held r t) j

-- a packet that network i got at port j: it becomes what the rules say, or is refused with the fault that is told
abbrev pub Got : World → Lookup → ℕ → Local → Port → rules.Packet → Result Forwarded Fault → Type 0
Got w at i s j p (Ok x) = (packet_fault w i s j ≡ None) × (forwarded_of x ≡ forwarded w at i s p)
Got w at i s j p (Err fault) = packet_fault w i s j ≡ Some fault

-- a packet that a router got from a neighbour
abbrev pub GotBy : Router → Lent → Tables → Blocks → ℕ → rules.Packet → Result Forwarded Fault → Type 0
GotBy r world t blocks j p answer =
    Got (world_for world t) (lookup (blocks_of t) blocks) (number_of r) (held r t) j p answer
