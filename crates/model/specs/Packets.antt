-- Packets: where one goes from a network. Assumes nothing.
use Rattle.std.specs.Prelude.{ℕ, zero, suc, not, cond, ◌∷◌, [], Some, None, Option, nat_le}
use Rattle.model.specs.FirstFault.{Checks, first_fault}
use Rattle.model.specs.Local.{Local, choice}
use Rattle.model.specs.Ports.{Port, far, ports}
use Rattle.model.specs.Relations.{related}
use Rattle.model.specs.Selection.{Choice, nothing, local, via}
use Rattle.model.specs.World.{World, rel_at}
use Rattle.model.specs.declared.drop_reason.DropReason.{DropReason}
use Rattle.model.specs.declared.drop_reason.DropReason.TheVariants.{NoBlock, NoRoute, NoHops}
use Rattle.model.specs.declared.fault.Fault.{Fault}
use Rattle.model.specs.declared.fault.Fault.TheVariants.{NoSuchNetwork, NotRelated, LinkDown}

-- which block an address is in
abbrev pub Lookup : Type 0
Lookup = ℕ → Option ℕ

-- an address, and how many hops are left
pub record Packet : Type 0 where
  pub address : ℕ
  pub hops : ℕ

-- what becomes of a packet at a network
pub data Forwarded : Type 0 where
  arrived : Forwarded
  dropped : DropReason → Forwarded
  handed : Port → Packet → Forwarded

-- handed to port j, with one hop less
abbrev pub hand : ℕ → Port → ℕ → Forwarded
hand address j zero = dropped NoHops
hand address j (suc hops) = handed j (record { address = address; hops = hops })

abbrev pub by_choice : Packet → Choice → Forwarded
by_choice p nothing = dropped NoRoute
by_choice p local = arrived
by_choice p (via j path) = hand p.address j p.hops

-- at a home it has arrived; elsewhere it goes the way of the block
abbrev pub in_block : World → ℕ → Local → Packet → ℕ → Forwarded
in_block w i s p b = cond (w.is_home b i) arrived (by_choice p (choice w i s b))

abbrev pub of_block : World → ℕ → Local → Packet → Option ℕ → Forwarded
of_block w i s p None = dropped NoBlock
of_block w i s p (Some b) = in_block w i s p b

-- a packet at network i, where `at` says which block an address is in
abbrev pub forwarded : World → Lookup → ℕ → Local → Packet → Forwarded
forwarded w at i s p = of_block w i s p (at p.address)

-- what may be wrong with port j, at which network i gets a packet
abbrev pub packet_checks : World → ℕ → Local → Port → Checks Fault
packet_checks w i s j =
    (NoSuchNetwork, nat_le (ports w.n) j) ∷ (NotRelated, not (related (rel_at w i j))) ∷ (LinkDown, not (s.up j)) ∷ []

abbrev pub packet_fault : World → ℕ → Local → Port → Option Fault
packet_fault w i s j = first_fault (packet_checks w i s j)

-- how a packet ends, and after how many steps
pub data Trip : Type 0 where
  arrives : ℕ → ℕ → Trip
  lost : ℕ → ℕ → DropReason → Trip
  on_its_way : ℕ → Trip

abbrev pub ending : (ℕ → Packet → Trip) → ℕ → ℕ → Forwarded → Trip
ending further i steps arrived = arrives i steps
ending further i steps (dropped why) = lost i steps why
ending further i steps (handed j q) = further (far i j) q

-- the trip of a packet over at most `fuel` networks, if no network changes meanwhile
abbrev pub trip : World → Lookup → (ℕ → Local) → ℕ → ℕ → ℕ → Packet → Trip
trip w at locals zero steps i p = on_its_way i
trip w at locals (suc fuel) steps i p =
    ending (λ j q. trip w at locals fuel (suc steps) j q) i steps (forwarded w at i (locals i) p)
