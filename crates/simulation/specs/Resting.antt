-- Hearing until nothing is in flight. Assumes nothing.
use Rattle.std.specs.Prelude.{◌≡◌, ℕ, ◌<◌, Bool, true, false, ◌&&◌, ◌||◌, List, [], ◌++◌, map, length, Some, None}
use Rattle.std.specs.Prelude.{Option, ◌==◌, nat_lt, slice_index_or, vec_items}
use Rattle.std.specs.List.Sorted.{IsPermutation}
use Rattle.std.specs.Ordering.{is_lt, nat_cmp, ordering_then}
use Rattle.model.specs.Packets.{Lookup}
use Rattle.model.specs.Run.{State}
use Rattle.model.specs.World.{World}
use Rattle.model.specs.Levels.{Heights}
use Rattle.model.specs.Measure.{left}
use Rattle.model.specs.Ends.{Ended, end_heard, ends}
use Rattle.forwarding.specs.Forwarding.{ended_of}
use Rattle.forwarding.specs.declared.packet.Ending.{Ending}
use Rattle.model.specs.Flight.{Heard, fates}
use Rattle.simulation.specs.Posting.{Oldest, blank}
use Rattle.simulation.specs.Posts.{Post, between, posts}
use Rattle.simulation.specs.declared.letter.Letter.{Letter}
use Rattle.simulation.specs.Simulated.{letter_of, state_of, world_of}
use Rattle.simulation.specs.declared.simulation.Simulation.{Simulation}
use Rattle.simulation.specs.Steps.{both, hearing}

-- less is left in flight, whatever heights the networks are given
abbrev pub Lessens : World → State → State → Type 0
Lessens w s t = (height : ℕ → ℕ) → Heights w height → left w height t < left w height s

-- the pair a, c comes before the pair i, j
abbrev pub lower : ℕ → ℕ → ℕ → ℕ → Bool
lower a c i j = nat_lt a i || (a == i && nat_lt c j)

-- the lowest pair of networks that has something in flight, if any has
abbrev pub LowestOf : List Post → Option (ℕ × ℕ) → Type 0
LowestOf ps None = ps ≡ []
LowestOf ps (Some (i, j)) = (0 < length (between i j ps)) × ((a c : ℕ) → lower a c i j ≡ true → between a c ps ≡ [])

-- the letter at place k is the oldest of the lowest pair that has something in flight, between networks that there are
pub record Foremost (x : Simulation) (k : ℕ) : Type 0 where
  pub below : both (world_of x) (letter_of x k).from (letter_of x k).to ≡ true
  pub some : 0 < length ((state_of x).flight (letter_of x k).from (letter_of x k).to)
  pub lowest : LowestOf (posts (vec_items x.letters)) (Some ((letter_of x k).from, (letter_of x k).to))
  pub oldest : Oldest (letter_of x k).from (letter_of x k).to k (vec_items x.letters)

-- these are the ends of a letter, and no letter has lower ones, as pairs are compared
abbrev pub LowestEnds : List Letter → ℕ × ℕ → Type 0
LowestEnds ls m =
    ((k : ℕ) × (k < length ls) × ((slice_index_or ls k blank).from ≡ m.0) × ((slice_index_or ls k blank).to ≡ m.1)) ×
    ((k : ℕ) → k < length ls →
    is_lt
    (ordering_then (nat_cmp (slice_index_or ls k blank).from m.0)
    (nat_cmp (slice_index_or ls k blank).to m.1)) ≡ false)

-- the ends that came are told behind those that were told before
abbrev pub Told : List Ending → List Ending → List Ended → Type 0
Told before after came = map ended_of after ≡ map ended_of before ++ came

-- the oldest of the lowest pair that has something in flight was heard, and this end came
pub record NextHeard (w : World) (at : Lookup) (s t : State) (end : Option Ended) : Type 0 where
  pub i : ℕ
  pub j : ℕ
  pub below : both w i j ≡ true
  pub some : 0 < length (s.flight i j)
  pub lowest : (a c : ℕ) → lower a c i j ≡ true → s.flight a c ≡ []
  pub step : t ≡ hearing w at i j s
  pub came : end ≡ end_heard w at i j s

-- so, and the end is told behind those that were told before
pub record NextTold (w : World) (at : Lookup) (s t : State) (before after : List Ending) : Type 0 where
  pub end : Option Ended
  pub heard : NextHeard w at s t end
  pub told : Told before after (ends end)

-- from one state to another by any number of such hearings, and the ends that came, one after the other
pub data Hearings (w : World) (at : Lookup) (s : State) : State → List Ended → Type 0 where
  none : Hearings w at s s []
  more : {t u : State} {es : List Ended} {end : Option Ended} → Hearings w at s t es → NextHeard w at t u end →
      Hearings w at s u (es ++ ends end)

-- so many hearings, and their ends are told behind those that were told before
pub record HeardAll (w : World) (at : Lookup) (s t : State) (before after : List Ending) : Type 0 where
  pub came : List Ended
  pub hearings : Hearings w at s t came
  pub told : Told before after came

-- the ends of all packets in flight, each once and by its fate, are told behind those that were told before
pub record FatesTold (w : World) (at : Lookup) (s : State) (before after : List Ending) : Type 0 where
  pub came : List Ended
  pub told : Told before after came
  pub fates : ∥ IsPermutation (fates w at s) came ∥₁

-- such hearings are hearings in some order
abbrev pub RestHears : Type 0
RestHears = (w : World) (at : Lookup) (s t : State) (es : List Ended) → Hearings w at s t es → Heard w at s t es
