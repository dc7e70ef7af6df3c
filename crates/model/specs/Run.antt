-- The run of networks that exchange updates and packets. Assumes nothing.
use Rattle.std.specs.Prelude.{ℕ, Bool, true, cond, List, [], ◌∷◌, map, ◌==◌}
use Rattle.model.specs.Hearing.{after_hearing, sent_on_hearing, after_turning, sent_on_turning}
use Rattle.model.specs.Local.{Update, Local, silent}
use Rattle.model.specs.Packets.{Packet, Lookup, Forwarded, arrived, dropped, handed, forwarded}
use Rattle.model.specs.Ports.{Port}
use Rattle.model.specs.Stable.{Links}
use Rattle.model.specs.Steps.{Step, Behaviour}
use Rattle.model.specs.Steps as Steps
use Rattle.model.specs.World.{World}
use Rattle.model.specs.declared.limits.TheConstants.{MOST_HOPS}

-- what goes over a link, in one order
pub data Item : Type 0 where
  update : Update → Item
  packet : Packet → Item

abbrev pub State : Type 0
State = Steps.State Local Item

-- which links are up, as each network has it
abbrev pub links : State → Links
links s i = (s.locals i).up

abbrev pub updates : List Update → List Item
updates us = map update us

-- a packet that is handed on goes to one port
abbrev pub onward : Forwarded → Port → List Item
onward arrived k = []
onward (dropped why) k = []
onward (handed j p) k = cond (k == j) (packet p ∷ []) []

-- a packet changes nothing that a network holds
abbrev pub carried : World → Lookup → ℕ → Packet → Local → Step Local Item
carried w at i p s = record { holds = s; sends = onward (forwarded w at i s p) }

-- a packet as people send it
abbrev pub fresh : ℕ → Packet
fresh address = record { address = address; hops = MOST_HOPS }

abbrev pub take : World → Lookup → ℕ → Port → Item → Local → Step Local Item
take w at i j (update u) s =
    record { holds = after_hearing w i j u s; sends = λ k. updates (sent_on_hearing w i j u s k) }
take w at i j (packet p) s = carried w at i p s

-- the rules of this project
abbrev pub rules : Lookup → World → Behaviour Local Item
rules at w = record {
  first = silent;
  take = take w at;
  turn = λ i j b s. record { holds = after_turning w i j b s; sends = λ k. updates (sent_on_turning w i j b s k) };
  send = λ i address s. carried w at i (fresh address) s;
  is_address = λ address. true;
}

-- every link is down, and nothing was sent
abbrev pub begin : State
begin = record { locals = λ i. silent; flight = λ i p. [] }

-- the network at the far end of port p of network i takes the oldest item that is in flight there
abbrev pub taken : World → Lookup → ℕ → Port → Item → List Item → State → State
taken w at i p x rest s = Steps.taken (rules at w) i p x rest s

abbrev pub turned : World → Lookup → ℕ → Port → Bool → State → State
turned w at i p b s = Steps.turned (rules at w) i p b s

abbrev pub posted : World → Lookup → ℕ → ℕ → State → State
posted w at i address s = Steps.posted (rules at w) i address s

-- one item is heard; one link turns; a packet is sent
abbrev pub Move : World → Lookup → State → State → Type 0
Move w at = Steps.Move Local Item w (rules at w)

abbrev pub Change : World → Lookup → State → State → Type 0
Change w at = Steps.Change Local Item w (rules at w)

abbrev pub Send : World → Lookup → State → State → Type 0
Send w at = Steps.Send Local Item w (rules at w)

-- the states of all runs
abbrev pub Reach : World → Lookup → State → Type 0
Reach w at = Steps.Reach Local Item (rules at) w

-- there is no endless run of moves from here
abbrev pub Ends : World → Lookup → State → Type 0
Ends w at = Steps.Ends Local Item w (rules at w)

-- no item of a list is an update
abbrev pub NoUpdate : List Item → Type 0
NoUpdate [] = Unit {0}
NoUpdate (update u ∷ rest) = ⊥
NoUpdate (packet p ∷ rest) = NoUpdate rest

-- no update is in flight; packets may be
abbrev pub Quiescent : State → Type 0
Quiescent s = (i : ℕ) (p : Port) → NoUpdate (s.flight i p)
