-- Whatever is heard, updates too, no packet is doubled, and none is gone but by an end. Assumes nothing.
use Rattle.std.proofs.Common.{◌≡◌, ℕ, ◌+◌, ◌<◌, eqb, List, [], ◌∷◌, map, sum_by, refl, ap, ◌∙◌, arith}
use Rattle.std.proofs.lemmas.Bool.{eq-eqb, eqb-true}
use Rattle.std.proofs.lemmas.List.Sums.{sum_by-append, sum_by-cons}
use Rattle.model.specs.World.{World}
use Rattle.model.specs.Hearing.{sent_on_hearing}
use Rattle.model.specs.Packets.{forwarded, Lookup}
use Rattle.model.specs.Run.{Item, update, packet, State, onward, taken, updates}
use Rattle.model.specs.Steps.{queued}
use Rattle.model.specs.Measure.{sum}
use Rattle.convergence.proofs.Flows.{flow_appended, flow_queued}
use Rattle.convergence.proofs.Sums.{sum_none, sum_same}
use Rattle.model.specs.Ends.{Ended, end_heard, end_of_first, ends}
use Rattle.model.specs.Flight.{Heard, hearing, none, addresses}
use Rattle.model.specs.PacketLaws.{NoneLost}
use Rattle.delivery.proofs.Fates.{address_kept}
use Rattle.delivery.proofs.Counts.{count, no_packet, packet_flow, sum_in_flight}
use Rattle.delivery.proofs.Orders.{reordered}

module _ (w : World) (find : Lookup) (f : ℕ → ℕ) where
  -- what the addresses in flight say, and those of ends
  abbrev flying : State → ℕ
  flying s = packet_flow w (λ k q. f q.address) s.flight

  abbrev ended : List Ended → ℕ
  ended es = sum_by (λ e. f e.address) es

  hearing_loses_none : (s : State) (i j : ℕ) (x : Item) (rest : List Item) → i < w.n → j < w.n → s.flight i j ≡ x ∷ rest → flying (taken w find i j x rest s) + ended (ends (end_heard w find i j s)) ≡ flying s
  hearing_loses_none s i j (update u) rest hi hj e =
      let more : ℕ → List Item = λ k. updates (sent_on_hearing w j i u (s.locals j) k) in
      let a = flow_appended w.n (λ a. count (λ k q. f q.address)) j hj more (queued i j rest s.flight) in
      let b = flow_queued w.n (λ a. count (λ k q. f q.address)) i j hi hj (update u) rest s.flight e in
      let c : sum w.n (λ k. sum_by (count (λ k q. f q.address) k) (more k)) ≡ 0 = sum_same w.n _ (λ k. 0) (λ k _. no_packet (λ k q. f q.address) k (sent_on_hearing w j i u (s.locals j) k)) ∙ sum_none w.n in
      let d : ended (ends (end_heard w find i j s)) ≡ 0 = ap (λ xs. ended (ends (end_of_first w find j (s.locals j) xs))) e in
      omega (arith, a, b, c, d)
  hearing_loses_none s i j (packet p) rest hi hj e =
      let o = forwarded w find j (s.locals j) p in
      let a = flow_appended w.n (λ a. count (λ k q. f q.address)) j hj (onward o) (queued i j rest s.flight) in
      let b = flow_queued w.n (λ a. count (λ k q. f q.address)) i j hi hj (packet p) rest s.flight e in
      let c = address_kept w find s.locals j p f o refl in
      let d = ap (λ xs. ended (ends (end_of_first w find j (s.locals j) xs))) e in
      omega (arith, a, b, c, d)

  hearings_lose_none : (s t : State) (es : List Ended) → Heard w find s t es → flying t + ended es ≡ flying s
  hearings_lose_none s t es (none s') = omega arith
  hearings_lose_none s t es (hearing s' i j x rest hi hj e t' later h) =
      let a = hearing_loses_none s' i j x rest hi hj e in
      let b = hearings_lose_none (taken w find i j x rest s') t' later h in
      let c = sum_by-append (λ (y : Ended). f y.address) (ends (end_heard w find i j s')) later in
      omega (arith, a, b, c)

sum_addresses : (f : ℕ → ℕ) (es : List Ended) → sum_by f (map (λ e. e.address) es) ≡ sum_by (λ e. f e.address) es
sum_addresses f [] = refl
sum_addresses f (e ∷ es) =
    let a = sum_by-cons f e.address (map (λ (y : Ended). y.address) es) in
    let b = sum_by-cons (λ (y : Ended). f y.address) e es in
    let c = sum_addresses f es in
    omega (arith, a, b, c)

pub none_lost : NoneLost
none_lost w find s t es h =
    reordered eqb eqb-true (λ x. eq-eqb x x refl) _ _
    (λ f.
    let a = sum_in_flight f (λ k q. q.address) w s in
    let b = sum_in_flight f (λ k q. q.address) w t in
    let c = sum_by-append f (addresses w t) (map (λ (e : Ended). e.address) es) in
    let d = sum_addresses f es in
    let e = hearings_lose_none w find f s t es h in
    omega (arith, a, b, c, d, e))
