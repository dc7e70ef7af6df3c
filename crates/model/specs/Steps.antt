-- A run of networks that take items from each other, of whatever kind the items are and whatever the networks hold:
-- moves, links that turn, packets that are sent. Assumes nothing.
use Rattle.std.specs.Prelude.{◌≡◌, ℕ, ◌<◌, Bool, true, cond, List, [], ◌∷◌, ◌++◌, ◌==◌, ◌≢◌}
use Rattle.model.specs.Local.{at}
use Rattle.model.specs.Ports.{Port, far, back}
use Rattle.model.specs.Relations.{related}
use Rattle.model.specs.World.{World, rel_at}

-- what a network then holds, and what it sends to each port, the oldest first
pub record Step (S I : Type 0) : Type 0 where
  pub holds : S
  pub sends : Port → List I

-- what networks of a kind hold at first, and what network i does: with an item that comes in at a port, with a link
-- that turns, and with a packet that its people send to an address; and the addresses that there are
pub record Behaviour (S I : Type 0) : Type 0 where
  pub first : S
  pub take : ℕ → Port → I → S → Step S I
  pub turn : ℕ → Port → Bool → S → Step S I
  pub send : ℕ → ℕ → S → Step S I
  pub is_address : ℕ → Bool

-- flight i p: what is in flight from network i over port p, the oldest first
pub record State (S I : Type 0) : Type 0 where
  pub locals : ℕ → S
  pub flight : ℕ → Port → List I

-- nothing was sent
abbrev pub begin : {S I : Type 0} → Behaviour S I → State S I
begin y = record { locals = λ i. y.first; flight = λ i p. [] }

-- what network i sends is appended to what is in flight from it
abbrev pub appended : {I : Type 0} → ℕ → (Port → List I) → (ℕ → Port → List I) → ℕ → Port → List I
appended i more flight j k = cond (j == i) (flight j k ++ more k) (flight j k)

-- the queue of network i at port p
abbrev pub queued : {I : Type 0} → ℕ → Port → List I → (ℕ → Port → List I) → ℕ → Port → List I
queued i p items flight = at i (at p items (flight i)) flight

-- the network at the far end of port p of network i takes the oldest item that is in flight there
abbrev pub taken : {S I : Type 0} → Behaviour S I → ℕ → Port → I → List I → State S I → State S I
taken y i p x rest s = record {
  locals = at (far i p) (y.take (far i p) (back i p) x (s.locals (far i p))).holds s.locals;
  flight = appended (far i p) (y.take (far i p) (back i p) x (s.locals (far i p))).sends (queued i p rest s.flight);
}

-- a link turns: what is in flight over it is lost, and both ends make their step
abbrev pub turned : {S I : Type 0} → Behaviour S I → ℕ → Port → Bool → State S I → State S I
turned y i p b s = record {
  locals =
      at i (y.turn i p b (s.locals i)).holds
      (at (far i p) (y.turn (far i p) (back i p) b (s.locals (far i p))).holds s.locals);
  flight =
      appended (far i p) (y.turn (far i p) (back i p) b (s.locals (far i p))).sends
      (appended i (y.turn i p b (s.locals i)).sends (queued i p [] (queued (far i p) (back i p) [] s.flight)));
}

-- the people of network i send a packet
abbrev pub posted : {S I : Type 0} → Behaviour S I → ℕ → ℕ → State S I → State S I
posted y i address s = record {
  locals = at i (y.send i address (s.locals i)).holds s.locals;
  flight = appended i (y.send i address (s.locals i)).sends s.flight;
}

-- one item is heard
pub data Move (S I : Type 0) (w : World) (y : Behaviour S I) : State S I → State S I → Type 0 where
  hears : (s : State S I) (i : ℕ) (p : Port) (x : I) (rest : List I) → i < w.n → far i p < w.n →
      s.flight i p ≡ x ∷ rest → Move S I w y s (taken y i p x rest s)

-- one link between two related networks turns; it may turn to what it is already
pub data Change (S I : Type 0) (w : World) (y : Behaviour S I) : State S I → State S I → Type 0 where
  turns : (s : State S I) (i : ℕ) (p : Port) (b : Bool) → i < w.n → far i p < w.n → (i ≢ far i p) →
      related (rel_at w i p) ≡ true → Change S I w y s (turned y i p b s)

pub data Send (S I : Type 0) (w : World) (y : Behaviour S I) : State S I → State S I → Type 0 where
  sends : (s : State S I) (i address : ℕ) → i < w.n → y.is_address address ≡ true →
      Send S I w y s (posted y i address s)

-- the states of all runs, and the ties by which each stands
pub data Reach (S I : Type 0) (y : World → Behaviour S I) : World → State S I → Type 0 where
  start : (w : World) → Reach S I y w (begin (y w))
  move : {w : World} {s t : State S I} → Reach S I y w s → Move S I w (y w) s t → Reach S I y w t
  change : {w : World} {s t : State S I} → Reach S I y w s → Change S I w (y w) s t → Reach S I y w t
  send : {w : World} {s t : State S I} → Reach S I y w s → Send S I w (y w) s t → Reach S I y w t

-- there is no endless run of moves from here
pub data Ends (S I : Type 0) (w : World) (y : Behaviour S I) : State S I → Type 0 where
  ends : (s : State S I) → ((t : State S I) → Move S I w y s t → Ends S I w y t) → Ends S I w y s
