-- The parts of the promise, each by itself, and that nothing rests on the order in which networks look. Each is a type;
-- a proof of it is the theorem. Assumes nothing.
use Rattle.std.specs.Prelude.{◌≡◌, ℕ, ◌+◌, ◌*◌, ◌<◌, Bool, true, cond, ◌⊎◌, List, [], ◌∷◌, length}
use Rattle.std.specs.List.{AllByRecursion}
use Rattle.model.specs.Packets.{Lookup}
use Rattle.model.specs.Promise.{AllProper, Arrive, Heard, Settled}
use Rattle.model.specs.Run.{State, links, Reach, Quiescent, Ends}
use Rattle.model.specs.Stable.{Links, Routing, look, stable, Stable}
use Rattle.model.specs.World.{World, Sound}

-- some networks look at once, the others stay as they are
abbrev pub looked : World → Links → ℕ → (ℕ → Bool) → Routing → Routing
looked w links b who a i = cond (who i) (look w links b a i) (a i)

-- one look after the other, each by some networks
abbrev pub after_looks : World → Links → ℕ → List (ℕ → Bool) → Routing → Routing
after_looks w links b [] a = a
after_looks w links b (who ∷ later) a = after_looks w links b later (looked w links b who a)

-- somewhere in the list network i looks
abbrev pub Looks : ℕ → List (ℕ → Bool) → Type 0
Looks i [] = ⊥
Looks i (who ∷ later) = (who i ≡ true) ⊎ Looks i later

-- stretches of looks, in each of which every network looks
abbrev pub Fair : World → List (List (ℕ → Bool)) → Type 0
Fair w stretches = AllByRecursion (λ stretch. (i : ℕ) → i < w.n → Looks i stretch) stretches

abbrev pub after_stretches : World → Links → ℕ → List (List (ℕ → Bool)) → Routing → Routing
after_stretches w links b [] a = a
after_stretches w links b (stretch ∷ later) a = after_stretches w links b later (after_looks w links b stretch a)

-- the stable routing exists, and 2n + 1 looks find it
abbrev pub Exists : Type 0
Exists = (w : World) → Sound w → (up : Links) (b : ℕ) → Stable w up b (stable w up b)

-- it is the only one
abbrev pub OnlyOne : Type 0
OnlyOne =
    (w : World) → Sound w → (up : Links) (b : ℕ) (a e : Routing) → Stable w up b a → Stable w up b e → (i : ℕ) →
    i < w.n → a i ≡ e i

-- nothing of it depends on the order of looking: from any start, after 2n + 1 stretches in each of which every network
-- looks
abbrev pub AnyOrder : Type 0
AnyOrder =
    (w : World) → Sound w → (up : Links) (b : ℕ) (start : Routing) (stretches : List (List (ℕ → Bool))) →
    Fair w stretches → length stretches ≡ 2 * w.n + 1 → (i : ℕ) → i < w.n →
    after_stretches w up b stretches start i ≡ stable w up b i

-- the telling ends
abbrev pub Stops : Type 0
Stops = (w : World) (at : Lookup) → Sound w → (s : State) → Reach w at s → Ends w at s

-- no update of a run is refused, and whatever is in flight can be heard
abbrev pub NoneRefused : Type 0
NoneRefused = (w : World) (at : Lookup) → Sound w → (s : State) → Reach w at s → Heard w at s

-- quiescence is the stable routing
abbrev pub Settles : Type 0
Settles = (w : World) (at : Lookup) → Sound w → (s : State) → Reach w at s → Quiescent s → Settled w s

-- two quiescent states with the same links hold the same, whatever their past
abbrev pub Forgets : Type 0
Forgets =
    (w : World) (at : Lookup) → Sound w → (s t : State) → Reach w at s → Reach w at t → Quiescent s → Quiescent t →
    ((i j : ℕ) → links s i j ≡ links t i j) → (i j b : ℕ) → i < w.n → j < w.n → b < w.blocks →
    ((s.locals i).received b j ≡ (t.locals i).received b j) ×
    ((s.locals i).advertised b j ≡ (t.locals i).advertised b j)

-- packets arrive
abbrev pub Arrives : Type 0
Arrives = (w : World) (at : Lookup) → Sound w → (s : State) → Reach w at s → Quiescent s → Arrive w at s

-- paths are proper at every moment
abbrev pub AlwaysProper : Type 0
AlwaysProper = (w : World) (at : Lookup) → Sound w → (s : State) → Reach w at s → AllProper w s
