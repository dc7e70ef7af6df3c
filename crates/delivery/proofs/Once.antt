-- What ends while things are heard, in whatever order, from a state in which no update is in flight. Assumes nothing.
use Rattle.std.proofs.Common.{refl, length, true, ◌≡◌, ℕ, List, [], ◌∷◌, ◌++◌, map, sum_by, ap, subst, sym, arith, append_assoc, append-nil}
use Rattle.std.specs.List.Sorted.{IsPermutation}
use Rattle.std.proofs.lemmas.List.Sorted.{IsPermutation-append_comm, IsPermutation-append_left, IsPermutation-append_right, IsPermutation-refl, IsPermutation-trans, sum_by-IsPermutation}
use Rattle.model.proofs.Gathered.{gather_none}
use Rattle.model.specs.Packets.{Trip, arrives, lost, on_its_way}
use Rattle.model.specs.Promise.{ArrivesHome}
use Rattle.model.specs.World.{World}
use Rattle.model.specs.Packets.{Packet, Lookup}
use Rattle.model.specs.Run.{State, NoUpdate, Quiescent, Reach, posted, taken, fresh}
use Rattle.model.specs.Steps.{move, send, hears}
use Rattle.model.specs.Steps as Steps
use Rattle.model.specs.Ends.{Ended, end_heard, end_posted, ends, fate}
use Rattle.model.specs.Flight.{Heard, hearing, none, Still, fates, in_flight, packets}
use Rattle.model.specs.PacketLaws.{EachEndsOnce, OneEnd, SentArrives, SentEndsOnce}
use Rattle.delivery.proofs.Carrying.{hearing_keeps, posted_quiet, posting_adds}
use Rattle.delivery.proofs.Homes.{fates_at_home}
use Rattle.delivery.proofs.Alike.{alike, own_end, same_end}
use Rattle.delivery.proofs.Orders.{single}

-- what came first and what came later
joined : {X : Type 0} (xs ys zs first later : List X) → IsPermutation xs (ys ++ first) → IsPermutation ys (zs ++ later) → IsPermutation xs (zs ++ (first ++ later))
joined xs ys zs first later h k =
    IsPermutation-trans xs (ys ++ first) (zs ++ (first ++ later)) h
    (IsPermutation-trans (ys ++ first) ((zs ++ later) ++ first) (zs ++ (first ++ later)) (IsPermutation-append_left first ys (zs ++ later) k)
    (subst (λ l. IsPermutation l (zs ++ (first ++ later))) (sym (append_assoc zs later first)) (IsPermutation-append_right zs (later ++ first) (first ++ later) (IsPermutation-append_comm later first))))

-- the fates of what was in flight are those of what then is, and the ends that came
fates_kept : (w : World) (find : Lookup) (s t : State) (es : List Ended) → Reach w find s → Quiescent s → Heard w find s t es → IsPermutation (fates w find s) (fates w find t ++ es)
fates_kept w find s t es run quiet (none s') = subst (IsPermutation (fates w find s')) (sym (append-nil (fates w find s'))) (IsPermutation-refl (fates w find s'))
fates_kept w find s t es run quiet (hearing s' i j x rest hi hj e t' later h) =
    let c = hearing_keeps w find s' run quiet i j x rest hi hj e in
    let then = fates_kept w find (taken w find i j x rest s') t' later (move run (hears s' i j x rest hi hj e)) c.quiet h in
    joined (fates w find s') (fates w find (taken w find i j x rest s')) (fates w find t') (ends (end_heard w find i j s')) later c.kept then

still_none : {X : Type 0} (f : ℕ → Packet → X) (w : World) (s : State) → Still s → in_flight f w s ≡ []
still_none f w s still = gather_none _ w.n (λ i _. gather_none _ w.n (λ j _. ap (λ xs. map (f j) (packets xs)) (still i j)))

pub each_ends_once : EachEndsOnce
each_ends_once w find s run quiet t es h still =
    subst (λ xs. IsPermutation (fates w find s) (xs ++ es)) (still_none (fate w find t.locals) w t still) (fates_kept w find s t es run quiet h)

pub sent_ends_once : SentEndsOnce
sent_ends_once w find s run quiet i address hi t es h still =
    let all = each_ends_once w find (posted w find i address s) (send run (Steps.sends s i address hi refl)) (posted_quiet w find s quiet i address) t es h still in
    let more = posting_adds w find s i address hi in
    joined _ (fates w find (posted w find i address s)) [] (ends (end_posted w find i address s)) es more all

pub one_end : OneEnd
one_end w find s run still i address hi t es h after =
    single alike same_end own_end (fate w find s.locals i (fresh address)) (ends (end_posted w find i address s) ++ es)
    (λ f.
    let all = sum_by-IsPermutation f _ _ (sent_ends_once w find s run (λ a k. subst NoUpdate (sym (still a k)) tt) i address hi t es h after) in
    let none_before = ap (λ xs. sum_by f (xs ++ fate w find s.locals i (fresh address) ∷ [])) (still_none (fate w find s.locals) w s still) in
    omega (arith, all, none_before))

pub sent_arrives : SentArrives
sent_arrives w find sound s run quiet i address b j path hi hb at c t es h still =
    let e = fate w find s.locals i (fresh address) in
    let there = fates_at_home w find sound s run quiet i address hi in
    let home = arrived_at w b (length path.networks) e.trip (there.over_path b j path hb at c) in (
      home.0,
      home.1,
      subst (λ x. IsPermutation (fates w find s ++ x ∷ []) (ends (end_posted w find i address s) ++ es)) (λ x. record { address = there.kept x; trip = home.2 x })
          (sent_ends_once w find s run quiet i address hi t es h still),
    )
  where
    -- a trip that arrives at a home does so at one
    arrived_at : (w : World) (b steps : ℕ) (t : Trip) → ArrivesHome w b steps t → (home : ℕ) × (w.is_home b home ≡ true) × (t ≡ arrives home steps)
    arrived_at w b steps (arrives i n) h = (i, h.0, ap (arrives i) h.1)
    arrived_at w b steps (lost i n why) h = absurd h
    arrived_at w b steps (on_its_way i) h = absurd h
