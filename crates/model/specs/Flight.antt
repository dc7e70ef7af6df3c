-- Hearings in any order with the ends that come of them, and the packets in flight and how they will end. Assumes
-- nothing.
use Rattle.std.specs.Prelude.{◌≡◌, ℕ, zero, suc, ◌<◌, ◌≤◌, true, List, [], ◌∷◌, ◌++◌, map, Some, None}
use Rattle.model.specs.Lists.{gather}
use Rattle.model.specs.Packets.{Lookup, Packet, Trip, arrives, lost, on_its_way}
use Rattle.model.specs.Ports.{Port, far, ports}
use Rattle.model.specs.Run.{Item, update, packet, State, taken}
use Rattle.model.specs.World.{World}
use Rattle.model.specs.declared.limits.TheConstants.{MOST_HOPS}
use Rattle.model.specs.declared.drop_reason.DropReason.TheVariants.{NoBlock, NoRoute, NoHops}
use Rattle.model.specs.Ends.{Ended, end_heard, ends, fate}

-- nothing is in flight
abbrev pub Still : State → Type 0
Still s = (i : ℕ) (k : Port) → s.flight i k ≡ []

-- from one state to another by any number of hearings, in any order, with no link turned and nothing sent in between;
-- and the ends that came, in the order in which they came
pub data Heard (w : World) (at : Lookup) : State → State → List Ended → Type 0 where
  none : (s : State) → Heard w at s s []
  hearing : (s : State) (i : ℕ) (k : Port) (x : Item) (rest : List Item) → i < w.n → far i k < w.n →
      s.flight i k ≡ x ∷ rest → (t : State) (later : List Ended) → Heard w at (taken w at i k x rest s) t later →
      Heard w at s t (ends (end_heard w at i k s) ++ later)

-- how many hearings
abbrev pub hearings : (w : World) (at : Lookup) (s t : State) (es : List Ended) → Heard w at s t es → ℕ
hearings w at s t es (none s') = zero
hearings w at s t es (hearing s' i j x rest hi hj e t' later h) =
    suc (hearings w at (taken w at i j x rest s') t' later h)

-- the packets among what is in flight
abbrev pub packets : List Item → List Packet
packets [] = []
packets (update u ∷ rest) = packets rest
packets (packet p ∷ rest) = p ∷ packets rest

-- what f says of each packet in flight and the network that it comes to next
abbrev pub in_flight : {X : Type 0} → (ℕ → Packet → X) → World → State → List X
in_flight f w s = gather (λ i. gather (λ k. map (f (far i k)) (packets (s.flight i k))) (ports w.n)) w.n

-- the fates of all packets in flight, and their addresses
abbrev pub fates : World → Lookup → State → List Ended
fates w at s = in_flight (fate w at s.locals) w s

abbrev pub addresses : World → State → List ℕ
addresses w s = in_flight (λ j p. p.address) w s

-- a packet that was handed on has fewer hops left than one that people send
abbrev pub FewHops : Item → Type 0
FewHops (update u) = Unit {0}
FewHops (packet p) = p.hops < MOST_HOPS

-- a packet that arrived did so at a home of the block of its address; one that was lost was so for its cause; and
-- neither took more steps than it may take
abbrev pub RightTrip : World → Lookup → ℕ → Trip → Type 0
RightTrip w at address (arrives i steps) =
    (steps ≤ MOST_HOPS) × (b : ℕ) × (at address ≡ Some b) × (w.is_home b i ≡ true)
RightTrip w at address (lost i steps NoBlock) = (steps ≤ MOST_HOPS) × (at address ≡ None)
RightTrip w at address (lost i steps NoRoute) = steps ≤ MOST_HOPS
RightTrip w at address (lost i steps NoHops) = steps ≡ MOST_HOPS
RightTrip w at address (on_its_way i) = ⊥
