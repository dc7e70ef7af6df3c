-- Where no update is in flight, hearing keeps the fates of packets, and sending adds one. Assumes nothing.
use Rattle.std.proofs.Common.{◌≡◌, ℕ, ◌+◌, ◌<◌, List, [], ◌∷◌, ◌++◌, sum_by, refl, ap, ◌∙◌, subst, arith}
use Rattle.std.specs.List.{AllByRecursion}
use Rattle.std.proofs.lemmas.List.Sums.{sum_by-append, sum_by-cons}
use Rattle.model.specs.Local.{at}
use Rattle.convergence.proofs.Places.{at_own}
use Rattle.model.specs.World.{World}
use Rattle.model.specs.Packets.{Packet, Forwarded, forwarded, Lookup}
use Rattle.model.specs.Run.{taken, Item, update, packet, State, NoUpdate, Quiescent, onward, posted, fresh}
use Rattle.model.specs.Steps.{appended, queued}
use Rattle.convergence.proofs.Flows.{flow_appended, flow_queued}
use Rattle.convergence.proofs.Places.{appended_cases, queued_cases}
use Rattle.convergence.proofs.Sending.{onward_quiet}
use Rattle.model.specs.Ends.{Ended, end_at, end_heard, end_of_first, end_posted, ends, fate}
use Rattle.model.specs.Flight.{FewHops, fates}
use Rattle.model.specs.PacketLaws.{HearingKeeps, PostingAdds}
use Rattle.delivery.proofs.Fates.{fate_kept}
use Rattle.delivery.proofs.Alike.{alike, own_end, same_end}
use Rattle.delivery.proofs.Counts.{count, packet_flow, sum_in_flight}
use Rattle.delivery.proofs.Hops.{hops_within}
use Rattle.delivery.proofs.Orders.{reordered}

no_update : (xs ys : List Item) → NoUpdate xs → NoUpdate ys → NoUpdate (xs ++ ys)
no_update [] ys h k = k
no_update (update u ∷ xs) ys h k = h
no_update (packet p ∷ xs) ys h k = no_update xs ys h k

abbrev AllQuiet : (ℕ → ℕ → List Item) → Type 0
AllQuiet flight = (i k : ℕ) → NoUpdate (flight i k)

quiet_appended : (j : ℕ) (o : Forwarded) (flight : ℕ → ℕ → List Item) → AllQuiet flight → AllQuiet (appended j (onward o) flight)
quiet_appended j o flight h a k = appended_cases NoUpdate j (onward o) flight a k (λ _. no_update (flight a k) (onward o k) (h a k) (onward_quiet o k)) (λ _. h a k)

quiet_queued : (i j : ℕ) (items : List Item) (flight : ℕ → ℕ → List Item) → AllQuiet flight → NoUpdate items → AllQuiet (queued i j items flight)
quiet_queued i j items flight h q a k = queued_cases NoUpdate i j items flight a k (λ _ _. q) (λ _. h a k)

pub posted_quiet : (w : World) (find : Lookup) (s : State) → Quiescent s → (i address : ℕ) → Quiescent (posted w find i address s)
posted_quiet w find s quiet i address = quiet_appended i (forwarded w find i (s.locals i) (fresh address)) s.flight quiet

-- what a packet at network i puts in flight, and its end if it ends, say what its fate says
placed : (w : World) (find : Lookup) (s : State) (i : ℕ) (p : Packet) → i < w.n → p.hops < 256 → (f : Ended → ℕ) (flight : ℕ → ℕ → List Item) → packet_flow w (λ k q. f (fate w find s.locals k q)) (appended i (onward (forwarded w find i (s.locals i) p)) flight) + sum_by f (ends (end_at i p (forwarded w find i (s.locals i) p))) ≡ packet_flow w (λ k q. f (fate w find s.locals k q)) flight + f (fate w find s.locals i p)
placed w find s i p hi few f flight =
    let o = forwarded w find i (s.locals i) p in
    let a = flow_appended w.n (λ a. count (λ k q. f (fate w find s.locals k q))) i hi (onward o) flight in
    let k = fate_kept w find s.locals i p few f o refl in
    omega (arith, a, k)

-- the fates in flight, and an end if there is one
counted : (w : World) (find : Lookup) (s : State) (es : List Ended) (f : Ended → ℕ) → sum_by f (fates w find s ++ es) ≡ packet_flow w (λ k q. f (fate w find s.locals k q)) s.flight + sum_by f es
counted w find s es f = sum_by-append f (fates w find s) es ∙ ap (λ y. y + sum_by f es) (sum_in_flight f (fate w find s.locals) w s)

-- a packet changes nothing that a network holds
pub same_locals : (s : State) (i : ℕ) → at i (s.locals i) s.locals ≡ s.locals
same_locals s i = λ x a. at_own i s.locals a x

-- the fates in flight after a step that changes nothing that a network holds
after : (w : World) (find : Lookup) (s t : State) (es : List Ended) (f : Ended → ℕ) → t.locals ≡ s.locals → sum_by f (fates w find t ++ es) ≡ packet_flow w (λ k q. f (fate w find s.locals k q)) t.flight + sum_by f es
after w find s t es f same = counted w find t es f ∙ ap (λ l. packet_flow w (λ k q. f (fate w find l k q)) t.flight + sum_by f es) same

pub posting_adds : PostingAdds
posting_adds w find s i address hi =
    reordered alike same_end own_end _ _
    (λ f.
    let e = fate w find s.locals i (fresh address) in
    let a = placed w find s i (fresh address) hi (omega arith) f s.flight in
    let b = counted w find s (e ∷ []) f in
    let c = after w find s (posted w find i address s) (ends (end_posted w find i address s)) f (same_locals s i) in
    let d = sum_by-cons f e [] in
    omega (arith, a, b, c, d))

pub hearing_keeps : HearingKeeps
hearing_keeps w find s run quiet i j (update u) rest hi hj e = absurd (subst NoUpdate e (quiet i j))
hearing_keeps w find s run quiet i j (packet p) rest hi hj e =
    record {
      quiet = quiet_appended j (forwarded w find j (s.locals j) p) (queued i j rest s.flight) (quiet_queued i j rest s.flight quiet (subst NoUpdate e (quiet i j)));
      same = same_locals s j;
      kept =
          reordered alike same_end own_end _ _
          (λ f.
          let few : FewHops (packet p) = (subst (AllByRecursion FewHops) e (hops_within w find s run i j)).0 in
          let a = placed w find s j p hj (omega (arith, few)) f (queued i j rest s.flight) in
          let q = flow_queued w.n (λ a. count (λ k q. f (fate w find s.locals k q))) i j hi hj (packet p) rest s.flight e in
          let g : sum_by f (ends (end_heard w find i j s)) ≡ sum_by f (ends (end_at j p (forwarded w find j (s.locals j) p))) = ap (λ xs. sum_by f (ends (end_of_first w find j (s.locals j) xs))) e in
          let b = sum_in_flight f (fate w find s.locals) w s in
          let c = after w find s (taken w find i j (packet p) rest s) (ends (end_heard w find i j s)) f (same_locals s j) in
          omega (arith, a, q, g, b, c));
    }
