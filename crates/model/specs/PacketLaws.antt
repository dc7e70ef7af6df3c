-- What becomes of packets in a run. Each law is a type; a proof of it is the theorem. Assumes nothing.
use Rattle.std.specs.Prelude.{◌≡◌, ℕ, suc, ◌<◌, ◌≤◌, true, false, List, [], ◌∷◌, ◌++◌, length, map, Some, None, Option}
use Rattle.std.specs.List.{AllByRecursion}
use Rattle.std.specs.List.Sorted.{IsPermutation}
use Rattle.model.specs.Selection.{nothing, via}
use Rattle.model.specs.Local.{Local, choice}
use Rattle.model.specs.Packets.{Lookup, Packet, handed, forwarded, arrives, lost}
use Rattle.model.specs.Ports.{Port, far}
use Rattle.model.specs.Promise.{ArrivesHome}
use Rattle.model.specs.Run.{Item, State, Reach, Quiescent, fresh, taken, posted}
use Rattle.model.specs.World.{World, Sound}
use Rattle.model.specs.Levels.{Heights}
use Rattle.model.specs.Measure.{left}
use Rattle.model.specs.Ends.{Ended, end_heard, end_posted, ends, fate}
use Rattle.model.specs.Paths.{Path}
use Rattle.model.specs.declared.limits.TheConstants.{MOST_HOPS}
use Rattle.model.specs.declared.drop_reason.DropReason.TheVariants.{NoBlock, NoRoute}
use Rattle.model.specs.Flight.{FewHops, Heard, Still, RightTrip, addresses, fates, hearings}

-- A packet is heard where no update is in flight: nothing changes in any network and no update is sent, and the fates
-- of what was in flight are those of what then is and, if an end came, that end.
pub record Carries (w : World) (at : Lookup) (s t : State) (end : Option Ended) : Type 0 where
  pub quiet : Quiescent t
  pub same : t.locals ≡ s.locals
  pub kept : IsPermutation (fates w at s) (fates w at t ++ ends end)

abbrev pub HearingKeeps : Type 0
HearingKeeps =
    (w : World) (at : Lookup) (s : State) → Reach w at s → Quiescent s →
    (i : ℕ) (k : Port) (x : Item) (rest : List Item) → i < w.n → far i k < w.n → s.flight i k ≡ x ∷ rest →
    Carries w at s (taken w at i k x rest s) (end_heard w at i k s)

-- A packet is sent: one more is in flight, with its fate, or has ended by it at once.
abbrev pub PostingAdds : Type 0
PostingAdds =
    (w : World) (at : Lookup) (s : State) (i address : ℕ) → i < w.n →
    IsPermutation (fates w at s ++ fate w at s.locals i (fresh address) ∷ [])
    (fates w at (posted w at i address s) ++ ends (end_posted w at i address s))

-- The fate of a packet that network i sends: it arrives after as many steps as its path has networks.
pub record FateOfSent (w : World) (at : Lookup) (s : State) (i address : ℕ) : Type 0 where
  pub kept : (fate w at s.locals i (fresh address)).address ≡ address
  pub at_home : (b : ℕ) → at address ≡ Some b → w.is_home b i ≡ true →
      (fate w at s.locals i (fresh address)).trip ≡ arrives i 0
  pub over_path : (b : ℕ) (j : Port) (path : Path) → b < w.blocks → at address ≡ Some b →
      choice w i (s.locals i) b ≡ via j path →
      ArrivesHome w b (length path.networks) (fate w at s.locals i (fresh address)).trip
  pub no_path : (b : ℕ) → at address ≡ Some b → w.is_home b i ≡ false → choice w i (s.locals i) b ≡ nothing →
      (fate w at s.locals i (fresh address)).trip ≡ lost i 0 NoRoute
  pub no_block : at address ≡ None → (fate w at s.locals i (fresh address)).trip ≡ lost i 0 NoBlock

abbrev pub FatesAtHome : Type 0
FatesAtHome =
    (w : World) (at : Lookup) → Sound w → (s : State) → Reach w at s → Quiescent s → (i address : ℕ) → i < w.n →
    FateOfSent w at s i address

-- No update is in flight, and then packets are heard, in whatever order, until nothing is: each packet that was in
-- flight has ended once, by its fate.
abbrev pub EachEndsOnce : Type 0
EachEndsOnce =
    (w : World) (at : Lookup) (s : State) → Reach w at s → Quiescent s → (t : State) (es : List Ended) →
    Heard w at s t es → Still t → IsPermutation (fates w at s) es

-- The same, where a packet is sent first: it too ends once, by its fate.
abbrev pub SentEndsOnce : Type 0
SentEndsOnce =
    (w : World) (at : Lookup) (s : State) → Reach w at s → Quiescent s → (i address : ℕ) → i < w.n →
    (t : State) (es : List Ended) → Heard w at (posted w at i address s) t es → Still t →
    IsPermutation (fates w at s ++ fate w at s.locals i (fresh address) ∷ []) (ends (end_posted w at i address s) ++ es)

-- Nothing is in flight, and one packet is sent: then exactly one end comes, and it is the packet's fate.
abbrev pub OneEnd : Type 0
OneEnd =
    (w : World) (at : Lookup) (s : State) → Reach w at s → Still s → (i address : ℕ) → i < w.n →
    (t : State) (es : List Ended) → Heard w at (posted w at i address s) t es → Still t →
    ends (end_posted w at i address s) ++ es ≡ fate w at s.locals i (fresh address) ∷ []

-- No update is in flight, though packets may be, and a network that goes by a path for a block sends a packet to an
-- address in it; then packets are heard, in whatever order, until nothing is in flight. The ends that came are the
-- fates of the packets that were in flight and one more: that packet has arrived at the home, after as many steps as
-- the path has networks.
abbrev pub SentArrives : Type 0
SentArrives =
    (w : World) (at : Lookup) → Sound w → (s : State) → Reach w at s → Quiescent s →
    (i address b : ℕ) (j : Port) (path : Path) → i < w.n → b < w.blocks → at address ≡ Some b →
    choice w i (s.locals i) b ≡ via j path →
    (t : State) (es : List Ended) → Heard w at (posted w at i address s) t es → Still t →
    (home : ℕ) × (w.is_home b home ≡ true) ×
    IsPermutation (fates w at s ++ record { address = address; trip = arrives home (length path.networks) } ∷ [])
    (ends (end_posted w at i address s) ++ es)

-- From any state, updates in flight or not, whatever is heard: no packet is doubled, and none is gone but by an end.
abbrev pub NoneLost : Type 0
NoneLost =
    (w : World) (at : Lookup) (s t : State) (es : List Ended) → Heard w at s t es →
    IsPermutation (addresses w s) (addresses w t ++ map (λ e. e.address) es)

-- A packet that is handed on goes over a link that is up, keeps its address and has one hop less; so one with no hop
-- left is not handed on.
pub record HandedOn (w : World) (s : Local) (p : Packet) (k : ℕ) (q : Packet) : Type 0 where
  pub there : k < w.n
  pub up : s.up k ≡ true
  pub address : q.address ≡ p.address
  pub hops : suc q.hops ≡ p.hops

abbrev pub HopsFall : Type 0
HopsFall =
    (w : World) (at : Lookup) (i : ℕ) (s : Local) (p : Packet) (k : ℕ) (q : Packet) →
    forwarded w at i s p ≡ handed k q → HandedOn w s p k q

-- In every state of every run a packet in flight has fewer hops left than one that people send.
abbrev pub HopsWithin : Type 0
HopsWithin =
    (w : World) (at : Lookup) (s : State) → Reach w at s → (i : ℕ) (k : Port) → AllByRecursion FewHops (s.flight i k)

-- In whatever state the networks are, if none changes: a packet with at most as many hops as one that people send left
-- comes home or is lost for a cause.
abbrev pub EveryFateEnds : Type 0
EveryFateEnds =
    (w : World) (at : Lookup) (locals : ℕ → Local) (i : ℕ) (p : Packet) → p.hops ≤ MOST_HOPS →
    RightTrip w at p.address (fate w at locals i p).trip

-- However things are heard, updates too: hearing stops after no more hearings than are left in flight, only where
-- nothing is in flight, and some hearing comes there; and each end that comes is one at the home of the packet's block,
-- or a loss for its cause, after at most 255 steps.
pub record AllEnd (w : World) (at : Lookup) (s : State) : Type 0 where
  pub bounded : (height : ℕ → ℕ) → Heights w height → (t : State) (es : List Ended) (h : Heard w at s t es) →
      hearings w at s t es h ≤ left w height s
  pub progress : (t : State) (es : List Ended) → Heard w at s t es → (i : ℕ) (k : Port) (x : Item) (rest : List Item) →
      t.flight i k ≡ x ∷ rest → (i < w.n) × (far i k < w.n)
  pub still : (t : State) × (es : List Ended) × Heard w at s t es × Still t
  pub right : (t : State) (es : List Ended) → Heard w at s t es →
      AllByRecursion (λ e. RightTrip w at e.address e.trip) es

abbrev pub EveryPacketEnds : Type 0
EveryPacketEnds = (w : World) (at : Lookup) → Sound w → (s : State) → Reach w at s → AllEnd w at s
