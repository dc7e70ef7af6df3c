-- How a packet ends, and how many steps it has then taken. Assumes nothing.
use Rattle.std.specs.Prelude.{ℕ, suc, ◌-◌, List, [], ◌∷◌, Some, None, Option}
use Rattle.model.specs.Local.{Local}
use Rattle.model.specs.Packets.{Lookup, Packet, Forwarded, arrived, dropped, handed, Trip, arrives, lost, forwarded}
use Rattle.model.specs.Packets.{trip}
use Rattle.model.specs.Run.{Item, update, packet, State, fresh}
use Rattle.model.specs.declared.limits.TheConstants.{MOST_HOPS}
use Rattle.model.specs.Ports.{Port, far}
use Rattle.model.specs.World.{World}

-- the address of a packet, and where and how it ended after how many steps
pub record Ended : Type 0 where
  pub address : ℕ
  pub trip : Trip

-- the steps that a packet has taken, of those that it may take
abbrev pub steps_of : Packet → ℕ
steps_of p = MOST_HOPS - p.hops

-- a packet that is at network j ends there, or is handed on
abbrev pub end_at : ℕ → Packet → Forwarded → Option Ended
end_at j p arrived = Some (record { address = p.address; trip = arrives j (steps_of p) })
end_at j p (dropped why) = Some (record { address = p.address; trip = lost j (steps_of p) why })
end_at j p (handed k q) = None

-- the end that comes when network j takes an item
abbrev pub end_of_item : World → Lookup → ℕ → Local → Item → Option Ended
end_of_item w at j s (update u) = None
end_of_item w at j s (packet p) = end_at j p (forwarded w at j s p)

-- the end that comes when network j takes the first of these
abbrev pub end_of_first : World → Lookup → ℕ → Local → List Item → Option Ended
end_of_first w at j s [] = None
end_of_first w at j s (x ∷ rest) = end_of_item w at j s x

-- the end that comes when the network at the far end of port k of network i takes the oldest item in flight there
abbrev pub end_heard : World → Lookup → ℕ → Port → State → Option Ended
end_heard w at i k s = end_of_first w at (far i k) (s.locals (far i k)) (s.flight i k)

-- the end that comes when the people of network i send a packet
abbrev pub end_posted : World → Lookup → ℕ → ℕ → State → Option Ended
end_posted w at i address s = end_at i (fresh address) (forwarded w at i (s.locals i) (fresh address))

-- the end of a packet that is at network i, if no network changes meanwhile
abbrev pub fate : World → Lookup → (ℕ → Local) → ℕ → Packet → Ended
fate w at locals i p = record { address = p.address; trip = trip w at locals (suc p.hops) (steps_of p) i p }

-- none or one end
abbrev pub ends : Option Ended → List Ended
ends None = []
ends (Some e) = e ∷ []
