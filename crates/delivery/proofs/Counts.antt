-- What a number for each packet says of what is in flight. Assumes nothing.
use Rattle.std.proofs.Common.{◌≡◌, ℕ, zero, suc, ◌+◌, List, [], ◌∷◌, map, sum_by, refl, ap, ◌∙◌, arith}
use Rattle.std.proofs.lemmas.List.Sums.{sum_by-append, sum_by-cons}
use Rattle.model.specs.Lists.{gather}
use Rattle.model.specs.World.{World}
use Rattle.model.specs.Local.{Update}
use Rattle.model.specs.Packets.{Packet}
use Rattle.model.specs.Run.{Item, update, packet, State, updates}
use Rattle.model.specs.Measure.{sum}
use Rattle.convergence.proofs.Flows.{flow}
use Rattle.convergence.proofs.Sums.{sum_same}
use Rattle.model.specs.Flight.{in_flight, packets}

-- what a number for each packet says of an item that is in flight to network j
abbrev pub count : (ℕ → Packet → ℕ) → ℕ → Item → ℕ
count g j (update u) = 0
count g j (packet p) = g j p

pub no_packet : (g : ℕ → Packet → ℕ) (j : ℕ) (us : List Update) → sum_by (count g j) (updates us) ≡ 0
no_packet g j [] = refl
no_packet g j (u ∷ us) = let a = sum_by-cons (count g j) (update u) (updates us) in let z = no_packet g j us in omega (arith, a, z)

abbrev pub packet_flow : World → (ℕ → Packet → ℕ) → (ℕ → ℕ → List Item) → ℕ
packet_flow w g flight = flow w.n (λ i. count g) flight

-- a sum over the packets in flight
sum_packets : {X : Type 0} (f : X → ℕ) (g : ℕ → Packet → X) (j : ℕ) (xs : List Item) → sum_by f (map (g j) (packets xs)) ≡ sum_by (count (λ k p. f (g k p)) j) xs
sum_packets f g j [] = refl
sum_packets f g j (update u ∷ xs) = let a = sum_by-cons (count (λ k p. f (g k p)) j) (update u) xs in let z = sum_packets f g j xs in omega (arith, a, z)
sum_packets f g j (packet p ∷ xs) =
    let a = sum_by-cons f (g j p) (map (g j) (packets xs)) in
    let b = sum_by-cons (count (λ k q. f (g k q)) j) (packet p) xs in
    let c = sum_packets f g j xs in
    omega (arith, a, b, c)

sum_gather : {X : Type 0} (f : X → ℕ) (g : ℕ → List X) (n : ℕ) → sum_by f (gather g n) ≡ sum n (λ i. sum_by f (g i))
sum_gather f g zero = refl
sum_gather f g (suc n) = sum_by-append f (gather g n) (g n) ∙ ap (λ y. y + sum_by f (g n)) (sum_gather f g n)

pub sum_in_flight : {X : Type 0} (f : X → ℕ) (g : ℕ → Packet → X) (w : World) (s : State) → sum_by f (in_flight g w s) ≡ packet_flow w (λ j p. f (g j p)) s.flight
sum_in_flight f g w s =
    sum_gather f (λ i. gather (λ j. map (g j) (packets (s.flight i j))) w.n) w.n ∙
    sum_same w.n _ _ (λ i _. sum_gather f (λ j. map (g j) (packets (s.flight i j))) w.n ∙ sum_same w.n _ _ (λ j _. sum_packets f g j (s.flight i j)))
