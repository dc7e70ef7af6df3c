-- The promise of the whole, over every state of every run of sound ties: a type; a proof of it is the theorem. Assumes
-- nothing.
use Rattle.std.specs.Prelude.{◌≡◌, ℕ, suc, ◌<◌, ◌≤◌, true, false, List, ◌∷◌, length, Some, None}
use Rattle.std.specs.List.{AllByRecursion}
use Rattle.model.specs.Export.{tells}
use Rattle.model.specs.Hearing.{hearing_fault}
use Rattle.model.specs.Local.{Update, choice}
use Rattle.model.specs.Packets.{Lookup, Packet, arrived, forwarded, Trip, arrives, lost, on_its_way, trip}
use Rattle.model.specs.Paths.{Path, passes, begins, ends, repeats, below, valley_free}
use Rattle.model.specs.Ports.{Port, far, back}
use Rattle.model.specs.Run.{Item, update, packet, State, links, Move, Reach, Quiescent, Ends, taken}
use Rattle.model.specs.Selection.{Said, Choice, nothing, local, via}
use Rattle.model.specs.Stable.{stable}
use Rattle.model.specs.World.{World, Sound, rel_at}
use Rattle.model.specs.declared.limits.TheConstants.{MOST_NETWORKS}

-- a path for block b that network i may hold at port j
pub record Proper (w : World) (i : ℕ) (j : Port) (b : ℕ) (p : Path) : Type 0 where
  pub some : 0 < length p.networks
  pub short : length p.networks ≤ MOST_NETWORKS
  pub within : below w.n p.networks ≡ true
  pub first : begins (far i j) p.networks ≡ true
  pub last : ends (w.is_home b) p.networks ≡ true
  pub once : repeats p.networks ≡ false
  pub paid : valley_free w.rel i p.networks ≡ true

-- what is said is a proper path, if it is one
abbrev pub ProperSaying : World → ℕ → Port → ℕ → Said → Type 0
ProperSaying w i j b None = Unit {0}
ProperSaying w i j b (Some p) = Proper w i j b p

abbrev pub ProperItem : World → ℕ → Port → Item → Type 0
ProperItem w i j (update u) = (u.block < w.blocks) × ProperSaying w i j u.block u.says
ProperItem w i j (packet p) = Unit {0}

-- a path that is gone by does not pass the network itself
abbrev pub ProperChoice : World → ℕ → ℕ → Choice → Type 0
ProperChoice w i b nothing = Unit {0}
ProperChoice w i b local = Unit {0}
ProperChoice w i b (via j p) = Proper w i j b p × (passes i p.networks ≡ false)

-- at this moment no network holds, goes by or sends a path on which some network carries unpaid
pub record AllProper (w : World) (s : State) : Type 0 where
  pub received : (i : ℕ) (j : Port) (b : ℕ) → ProperSaying w i j b ((s.locals i).received b j)
  pub advertised : (i : ℕ) (k : Port) (b : ℕ) → ProperSaying w (far i k) (back i k) b ((s.locals i).advertised b k)
  pub chosen : (i b : ℕ) → ProperChoice w i b (choice w i (s.locals i) b)
  pub flying : (i : ℕ) (k : Port) → AllByRecursion (ProperItem w (far i k) (back i k)) (s.flight i k)

-- what is in flight can be heard, and is not refused
pub record Heard (w : World) (at : Lookup) (s : State) : Type 0 where
  pub progress : (i : ℕ) (k : Port) (x : Item) (rest : List Item) → s.flight i k ≡ x ∷ rest →
      Move w at s (taken w at i k x rest s)
  pub unrefused : (i : ℕ) (k : Port) (u : Update) (rest : List Item) → s.flight i k ≡ update u ∷ rest →
      hearing_fault w (far i k) (s.locals (far i k)) (back i k) u ≡ None

-- every network goes by the stable routing, and of the networks and blocks that there are nothing else is left in the
-- tables
pub record Settled (w : World) (s : State) : Type 0 where
  pub chosen : (i b : ℕ) → i < w.n → b < w.blocks → choice w i (s.locals i) b ≡ stable w (links s) b i
  pub advertised : (i : ℕ) (k : Port) (b : ℕ) → i < w.n → far i k < w.n → b < w.blocks →
      (s.locals i).advertised b k ≡ tells (rel_at w i) (links s i) i k (stable w (links s) b i)
  pub received : (i : ℕ) (j : Port) (b : ℕ) → i < w.n → far i j < w.n → b < w.blocks →
      (s.locals i).received b j ≡
      tells (rel_at w (far i j)) (links s (far i j)) (far i j) (back i j) (stable w (links s) b (far i j))

-- a trip ends at a home of a block, after exactly so many steps
abbrev pub ArrivesHome : World → ℕ → ℕ → Trip → Type 0
ArrivesHome w b steps (arrives i n) = (w.is_home b i ≡ true) × (n ≡ steps)
ArrivesHome w b steps (lost i n why) = ⊥
ArrivesHome w b steps (on_its_way i) = ⊥

-- a packet with enough hops left arrives at a home of its block, after exactly as many steps as the path has networks
pub record Arrive (w : World) (at : Lookup) (s : State) : Type 0 where
  pub exact : (i b : ℕ) (j : Port) (path : Path) (p : Packet) → i < w.n → b < w.blocks → at p.address ≡ Some b →
      choice w i (s.locals i) b ≡ via j path → length path.networks ≤ p.hops →
      ArrivesHome w b (length path.networks) (trip w at s.locals (suc (length path.networks)) 0 i p)
  pub enough : (i b : ℕ) (j : Port) (path : Path) → i < w.n → choice w i (s.locals i) b ≡ via j path →
      length path.networks < w.n
  pub home : (i b : ℕ) (p : Packet) → at p.address ≡ Some b → w.is_home b i ≡ true →
      forwarded w at i (s.locals i) p ≡ arrived

-- THE PROMISE, of every state of every run. From here, if links stay as they are and nothing new is sent, the telling
-- ends whichever item is heard next, and it does not end because something is stuck; when no update is in flight every
-- network goes by the one stable routing, whatever the past was, and packets arrive; and at no moment is an unpaid path
-- held.
pub record Promise (w : World) (at : Lookup) (s : State) : Type 0 where
  pub ends : Ends w at s
  pub heard : Heard w at s
  pub settled : Quiescent s → Settled w s
  pub arrive : Quiescent s → Arrive w at s
  pub proper : AllProper w s

abbrev pub Main : Type 0
Main = (w : World) (at : Lookup) → Sound w → (s : State) → Reach w at s → Promise w at s
