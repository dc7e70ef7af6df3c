-- Every fate is a right end; and hearing ends, where nothing is in flight, with right ends alone. Assumes nothing.
use Rattle.std.proofs.Common.{◌≡◌, ℕ, zero, suc, ◌+◌, ◌<◌, ◌≤◌, ◌⊎◌, List, [], ◌∷◌, ◌++◌, refl, inl, inr, subst, sym, ⊎_elim, arith}
use Rattle.std.specs.List.{AllByRecursion}
use Rattle.std.proofs.ByRecursion.{All-append}
use Rattle.std.proofs.lemmas.Bool.{cases_lt}
use Rattle.model.specs.World.{World, Sound}
use Rattle.model.specs.Local.{Local}
use Rattle.model.specs.Packets.{Packet, Forwarded, arrived, dropped, handed, forwarded, Trip, ending, trip, Lookup}
use Rattle.model.specs.declared.drop_reason.DropReason.TheVariants.{NoBlock, NoRoute, NoHops}
use Rattle.model.specs.Run.{Item, update, packet, State, Move, Reach, taken}
use Rattle.model.specs.Steps.{move, hears}
use Rattle.model.specs.Levels.{Heights}
use Rattle.model.specs.Measure.{left}
use Rattle.convergence.proofs.Falling.{falls}
use Rattle.convergence.proofs.Keeping.{flies_up}
use Rattle.convergence.proofs.Standing.{height, height_stands}
use Rattle.convergence.proofs.Steps.{run_kept}
use Rattle.model.specs.Ends.{Ended, end_at, end_heard, end_of_first, end_of_item, ends, steps_of}
use Rattle.model.specs.Flight.{Heard, hearing, none, Still, RightTrip, hearings}
use Rattle.model.specs.PacketLaws.{EveryFateEnds, EveryPacketEnds, HandedOn}
use Rattle.delivery.proofs.Causes.{Caused, caused}
use Rattle.delivery.proofs.Hearings.{heard_on}
use Rattle.delivery.proofs.Hops.{hops_fall}

bounded : (w : World) (find : Lookup) → Sound w → (height : ℕ → ℕ) → Heights w height → (s t : State) (es : List Ended) → Reach w find s → (h : Heard w find s t es) → hearings w find s t es h ≤ left w height s
bounded w find sound tall stands s t es run (none s') = omega arith
bounded w find sound tall stands s t es run (hearing s' i j x rest hi hj e t' later h) =
    let m : Move w find s' (taken w find i j x rest s') = hears s' i j x rest hi hj e in
    let f = falls w tall find sound stands s' (taken w find i j x rest s') run m in
    let ih = bounded w find sound tall stands (taken w find i j x rest s') t' later (move run m) h in
    omega (arith, f, ih)

-- ends that are right
abbrev AllRight : World → Lookup → List Ended → Type 0
AllRight w find es = AllByRecursion (λ (e : Ended). RightTrip w find e.address e.trip) es

right_at : (w : World) (find : Lookup) (i : ℕ) (p : Packet) (o : Forwarded) → Caused w i p (find p.address) o → AllRight w find (ends (end_at i p o))
right_at w find i p arrived c = ((omega arith, c.0, c.1, c.2), tt)
right_at w find i p (dropped NoBlock) c = ((omega arith, c), tt)
right_at w find i p (dropped NoRoute) c = (omega arith, tt)
right_at w find i p (dropped NoHops) c = (omega (arith, c), tt)
right_at w find i p (handed k q) c = tt

right_item : (w : World) (find : Lookup) (j : ℕ) (l : Local) (x : Item) → AllRight w find (ends (end_of_item w find j l x))
right_item w find j l (update u) = tt
right_item w find j l (packet p) = right_at w find j p (forwarded w find j l p) (caused w j l p (find p.address))

all_right : (w : World) (find : Lookup) (s t : State) (es : List Ended) → Heard w find s t es → AllRight w find es
all_right w find s t es (none s') = tt
all_right w find s t es (hearing s' i j x rest hi hj e t' later h) =
    All-append (λ (y : Ended). RightTrip w find y.address y.trip) (ends (end_heard w find i j s')) later
    (subst (λ xs. AllRight w find (ends (end_of_first w find j (s'.locals j) xs))) (sym e) (right_item w find j (s'.locals j) x))
    (all_right w find (taken w find i j x rest s') t' later h)

-- a trip with one step for each hop that is left, and one more
module _ (w : World) (find : Lookup) (locals : ℕ → Local) where
  right_trip : (i : ℕ) (p : Packet) (steps : ℕ) → steps + p.hops ≡ 255 → (further : ℕ → Packet → Trip) → ((k : ℕ) (q : Packet) → HandedOn w (locals i) p k q → RightTrip w find p.address (further k q)) → (o : Forwarded) → forwarded w find i (locals i) p ≡ o → Caused w i p (find p.address) o → RightTrip w find p.address (ending further i steps o)
  right_trip i p steps all further on arrived e c = (omega arith, c.0, c.1, c.2)
  right_trip i p steps all further on (dropped NoBlock) e c = (omega arith, c)
  right_trip i p steps all further on (dropped NoRoute) e c = omega arith
  right_trip i p steps all further on (dropped NoHops) e c = omega (arith, c)
  right_trip i p steps all further on (handed k q) e c = on k q (hops_fall w find i (locals i) p k q e)

  trip_ends : (hops steps i : ℕ) (p : Packet) → p.hops ≡ hops → steps + hops ≡ 255 → RightTrip w find p.address (trip w find locals (suc hops) steps i p)
  trip_ends zero steps i p e all =
      right_trip i p steps (omega arith) (λ k q. trip w find locals zero (suc steps) k q) (λ k q h. absurd (let f = h.hops in omega (arith, f))) (forwarded w find i (locals i) p) refl (caused w i (locals i) p (find p.address))
  trip_ends (suc hops) steps i p e all =
      right_trip i p steps (omega arith) (λ k q. trip w find locals (suc hops) (suc steps) k q)
      (λ k q h. subst (λ a. RightTrip w find a (trip w find locals (suc hops) (suc steps) k q)) h.address (trip_ends hops (suc steps) k q (let f = h.hops in omega (arith, f)) (omega arith)))
      (forwarded w find i (locals i) p) refl (caused w i (locals i) p (find p.address))

pub every_fate_ends : EveryFateEnds
every_fate_ends w find locals i p few = trip_ends w find locals p.hops (steps_of p) i p refl (omega arith)

-- below n one thing holds of all, or another of one
either : (P Q : ℕ → Type 0) → ((k : ℕ) → P k ⊎ Q k) → (n : ℕ) → ((k : ℕ) → k < n → P k) ⊎ ((k : ℕ) × (k < n) × Q k)
either P Q test zero = inl (λ k h. absurd (omega arith))
either P Q test (suc n) =
    ⊎_elim
    (λ all. ⊎_elim
    (λ p. inl (λ k h. ⊎_elim (λ l. all k l) (λ l. subst P (omega arith) p) (cases_lt k n)))
    (λ q. inr (n, omega arith, q))
    (test n))
    (λ one. inr (one.0, omega arith, one.2))
    (either P Q test n)

abbrev Begins : List Item → Type 0
Begins xs = (x : Item) × (rest : List Item) × (xs ≡ x ∷ rest)

begins : (xs : List Item) → (xs ≡ []) ⊎ Begins xs
begins [] = inl refl
begins (x ∷ rest) = inr (x, rest, refl)

-- either nothing is in flight, or something can be heard
module _ (w : World) (find : Lookup) (sound : Sound w) (s : State) (run : Reach w find s) where
  within : (i j : ℕ) (x : Item) (rest : List Item) → s.flight i j ≡ x ∷ rest → (i < w.n) × (j < w.n)
  within i j x rest e =
      let kept = run_kept w find sound run in
      let t = kept.tied i j (flies_up w s kept i j x rest e) in
      (t.here, t.there)

  empty : (i j : ℕ) → (i < w.n → j < w.n → s.flight i j ≡ []) → s.flight i j ≡ []
  empty i j h = ⊎_elim (λ e. e) (λ b. let t = within i j b.0 b.1 b.2 in h t.0 t.1) (begins (s.flight i j))

  abbrev Waits : Type 0
  Waits = (i : ℕ) × (i < w.n) × ((j : ℕ) × (j < w.n) × Begins (s.flight i j))

  still_or_waits : Still s ⊎ Waits
  still_or_waits =
      ⊎_elim
      (λ all. inl (λ i j. empty i j (λ hi hj. all i hi j hj)))
      (λ one. inr one)
      (either (λ i. (j : ℕ) → j < w.n → s.flight i j ≡ []) (λ i. (j : ℕ) × (j < w.n) × Begins (s.flight i j)) (λ i. either (λ j. s.flight i j ≡ []) (λ j. Begins (s.flight i j)) (λ j. begins (s.flight i j)) w.n) w.n)

-- some hearing comes to where nothing is in flight
abbrev Comes : World → Lookup → State → Type 0
Comes w find s = (t : State) × (es : List Ended) × Heard w find s t es × Still t

comes : (w : World) (find : Lookup) (sound : Sound w) (most : ℕ) (s : State) → Reach w find s → left w (height w sound) s < most → Comes w find s
comes w find sound zero s run l = absurd (omega arith)
comes w find sound (suc most) s run l =
    ⊎_elim
    (λ still. (s, [], none s, still))
    (λ one.
    let i = one.0 in let j = one.2.0 in let x = one.2.2.0 in let rest = one.2.2.1 in let e = one.2.2.2 in
    let m : Move w find s (taken w find i j x rest s) = hears s i j x rest one.1 one.2.1 e in
    let f = falls w (height w sound) find sound (height_stands w sound) s (taken w find i j x rest s) run m in
    let on = comes w find sound most (taken w find i j x rest s) (move run m) (omega (arith, f, l)) in
    (on.0, ends (end_heard w find i j s) ++ on.1, hearing s i j x rest one.1 one.2.1 e on.0 on.1 on.2, on.3))
    (still_or_waits w find sound s run)

pub every_packet_ends : EveryPacketEnds
every_packet_ends w find sound s run =
    record {
      bounded = λ tall stands t es h. bounded w find sound tall stands s t es run h;
      progress = λ t es h i j x rest e. within w find sound t (heard_on w find s t es run h) i j x rest e;
      still = comes w find sound (suc (left w (height w sound) s)) s run (omega arith);
      right = λ t es h. all_right w find s t es h;
    }
