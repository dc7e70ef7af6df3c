-- The steps of all networks, and why one is not played, in the terms of the model of a run. Assumes nothing.
use Rattle.std.specs.Prelude.{◌≡◌, ℕ, ◌<◌, ◌≤◌, Bool, true, false, ◌&&◌, List, [], ◌∷◌, length, Option, nat_lt}
use Rattle.std.specs.List.{filter}
use Rattle.std.specs.Option.{option_map}
use Rattle.model.specs.Relations.{related}
use Rattle.model.specs.Packets.{Lookup}
use Rattle.model.specs.Run.{Item, State, posted, taken, turned}
use Rattle.model.specs.World.{World}
use Rattle.model.specs.Measure.{sum}
use Rattle.model.specs.Ends.{end_heard, end_posted}
use Rattle.forwarding.specs.Forwarding.{ended_of}
use Rattle.forwarding.specs.declared.packet.Ending.{Ending}
use Rattle.simulation.specs.Posting.{is_update}
use Rattle.simulation.specs.declared.simulation.hearing.TheConstants.{MOST_UPDATES}
use Rattle.simulation.specs.declared.cause.Cause.TheVariants.{NoSuchNetwork, NothingInFlight, NoLink, TooMany}
use Rattle.simulation.specs.declared.cause.Refusal.{Refusal}
use Rattle.simulation.specs.declared.cause.Refusal.TheVariants.{Fault, Memory}

-- network j hears the first of what is in flight from i
abbrev pub first_heard : World → Lookup → ℕ → ℕ → List Item → State → State
first_heard w at i j [] s = s
first_heard w at i j (x ∷ rest) s = taken w at i j x rest s

abbrev pub hearing : World → Lookup → ℕ → ℕ → State → State
hearing w at i j s = first_heard w at i j (s.flight i j) s

-- how many of these are updates
abbrev pub updates_in : List Item → ℕ
updates_in xs = length (filter is_update xs)

-- how many updates are in flight
abbrev pub updates_in_flight : World → State → ℕ
updates_in_flight w s = sum w.n (λ i. sum w.n (λ j. updates_in (s.flight i j)))

-- there are two such networks
abbrev pub both : World → ℕ → ℕ → Bool
both w i j = nat_lt i w.n && nat_lt j w.n

-- network j heard the oldest from i; where that was a packet that ended, its end is told
pub record Hears (w : World) (at : Lookup) (i j : ℕ) (s t : State) (ending : Option Ending) : Type 0 where
  pub below : both w i j ≡ true
  pub some : 0 < length (s.flight i j)
  pub room : updates_in_flight w t ≤ MOST_UPDATES
  pub step : t ≡ hearing w at i j s
  pub end : option_map ended_of ending ≡ end_heard w at i j s

-- why it did not
abbrev pub NotHeard : World → Lookup → ℕ → ℕ → State → Refusal → Type 0
NotHeard w at i j s (Fault NoSuchNetwork) = both w i j ≡ false
NotHeard w at i j s (Fault NothingInFlight) = (both w i j ≡ true) × (s.flight i j ≡ [])
NotHeard w at i j s (Fault NoLink) = ⊥
NotHeard w at i j s (Fault TooMany) =
    (both w i j ≡ true) × (0 < length (s.flight i j)) × (MOST_UPDATES < updates_in_flight w (hearing w at i j s))
NotHeard w at i j s Memory = Unit {0}

-- the people of network i sent a packet; where it ended there, its end is told
pub record Sends (w : World) (at : Lookup) (i address : ℕ) (s t : State) (ending : Option Ending) : Type 0 where
  pub below : i < w.n
  pub room : updates_in_flight w t ≤ MOST_UPDATES
  pub step : t ≡ posted w at i address s
  pub end : option_map ended_of ending ≡ end_posted w at i address s

-- why they did not
abbrev pub NotSent : World → Lookup → ℕ → ℕ → State → Refusal → Type 0
NotSent w at i address s (Fault NoSuchNetwork) = w.n ≤ i
NotSent w at i address s (Fault NothingInFlight) = ⊥
NotSent w at i address s (Fault NoLink) = ⊥
NotSent w at i address s (Fault TooMany) = (i < w.n) × (MOST_UPDATES < updates_in_flight w (posted w at i address s))
NotSent w at i address s Memory = Unit {0}

-- the link of i and j turned
pub record Turns (w : World) (at : Lookup) (i j : ℕ) (up : Bool) (s t : State) : Type 0 where
  pub below : both w i j ≡ true
  pub tied : related (w.rel i j) ≡ true
  pub room : updates_in_flight w t ≤ MOST_UPDATES
  pub step : t ≡ turned w at i j up s

-- why it did not
abbrev pub NotTurned : World → Lookup → ℕ → ℕ → Bool → State → Refusal → Type 0
NotTurned w at i j up s (Fault NoSuchNetwork) = both w i j ≡ false
NotTurned w at i j up s (Fault NothingInFlight) = ⊥
NotTurned w at i j up s (Fault NoLink) = (both w i j ≡ true) × (related (w.rel i j) ≡ false)
NotTurned w at i j up s (Fault TooMany) =
    (both w i j ≡ true) × (related (w.rel i j) ≡ true) × (MOST_UPDATES < updates_in_flight w (turned w at i j up s))
NotTurned w at i j up s Memory = Unit {0}
