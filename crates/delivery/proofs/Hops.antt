-- A packet that is handed on has one hop less, so in every run one in flight has fewer than one that is sent. Assumes nothing.
use Rattle.std.proofs.Common.{◌≡◌, ℕ, ◌<◌, eqb, List, [], ◌∷◌, refl, subst, arith}
use Rattle.std.specs.List.{AllByRecursion}
use Rattle.std.proofs.ByRecursion.{All-append}
use Rattle.std.proofs.lemmas.Bool.{cond_both}
use Rattle.model.specs.World.{World}
use Rattle.model.specs.Local.{Local, Update}
use Rattle.model.specs.Packets.{Packet, Forwarded, arrived, dropped, handed, forwarded, Lookup}
use Rattle.model.specs.Run.{fresh, Item, update, packet, State, Move, Change, Send, Reach, onward, updates}
use Rattle.model.specs.Steps.{hears, turns, start, move, change, send, appended, queued}
use Rattle.model.specs.Steps as Steps
use Rattle.convergence.proofs.Hops.{handed_on}
use Rattle.convergence.proofs.Places.{appended_cases, queued_cases}
use Rattle.model.specs.Flight.{FewHops}
use Rattle.model.specs.PacketLaws.{HopsFall, HopsWithin}

pub hops_fall : HopsFall
hops_fall w find i l p k q e = let h = handed_on w find i l p k q e in record { there = h.0; up = h.1; address = h.2; hops = h.3 }

abbrev AllFew : (ℕ → ℕ → List Item) → Type 0
AllFew flight = (i k : ℕ) → AllByRecursion FewHops (flight i k)

few_updates : (us : List Update) → AllByRecursion FewHops (updates us)
few_updates [] = tt
few_updates (u ∷ us) = (tt, few_updates us)

few_appended : (j : ℕ) (more : ℕ → List Item) (flight : ℕ → ℕ → List Item) → AllFew flight → ((k : ℕ) → AllByRecursion FewHops (more k)) → AllFew (appended j more flight)
few_appended j more flight h m i k = appended_cases (AllByRecursion FewHops) j more flight i k (λ _. All-append FewHops (flight i k) (more k) (h i k) (m k)) (λ _. h i k)

few_queued : (i j : ℕ) (items : List Item) (flight : ℕ → ℕ → List Item) → AllFew flight → AllByRecursion FewHops items → AllFew (queued i j items flight)
few_queued i j items flight h m a k = queued_cases (AllByRecursion FewHops) i j items flight a k (λ _ _. m) (λ _. h a k)

-- what goes on of a packet
few_onward : (w : World) (find : Lookup) (i : ℕ) (l : Local) (p : Packet) → p.hops < 256 → (o : Forwarded) → forwarded w find i l p ≡ o → (k : ℕ) → AllByRecursion FewHops (onward o k)
few_onward w find i l p few arrived e k = tt
few_onward w find i l p few (dropped why) e k = tt
few_onward w find i l p few (handed j q) e k =
    let f = (hops_fall w find i l p j q e).hops in
    cond_both (eqb k j) (packet q ∷ []) [] (AllByRecursion FewHops) (λ _. (omega (arith, f), tt)) (λ _. tt)

few_move : (w : World) (find : Lookup) {s t : State} → AllFew s.flight → Move w find s t → AllFew t.flight
few_move w find h (hears s i j (update u) rest hi hj e) =
    few_appended j _ (queued i j rest s.flight) (few_queued i j rest s.flight h (subst (AllByRecursion FewHops) e (h i j)).1) (λ k. few_updates _)
few_move w find h (hears s i j (packet p) rest hi hj e) =
    let all = subst (AllByRecursion FewHops) e (h i j) in
    let one : p.hops < 255 = all.0 in
    few_appended j _ (queued i j rest s.flight) (few_queued i j rest s.flight h all.1) (few_onward w find j (s.locals j) p (omega (arith, one)) (forwarded w find j (s.locals j) p) refl)

few_change : (w : World) (find : Lookup) {s t : State} → AllFew s.flight → Change w find s t → AllFew t.flight
few_change w find h (turns s i j b hi hj ne r) =
    few_appended j _ _ (few_appended i _ _ (few_queued i j [] _ (few_queued j i [] s.flight h tt) tt) (λ k. few_updates _)) (λ k. few_updates _)

few_send : (w : World) (find : Lookup) {s t : State} → AllFew s.flight → Send w find s t → AllFew t.flight
few_send w find h (Steps.sends s i address hi known) =
    few_appended i _ s.flight h (few_onward w find i (s.locals i) (fresh address) (omega arith) (forwarded w find i (s.locals i) (fresh address)) refl)

every_few : (find : Lookup) (w : World) {s : State} → Reach w find s → AllFew s.flight
every_few find w (start x) = λ i k. tt
every_few find w (move r m) = few_move w find (every_few find w r) m
every_few find w (change r c) = few_change w find (every_few find w r) c
every_few find w (send r c) = few_send w find (every_few find w r) c

pub hops_within : HopsWithin
hops_within w find s run = every_few find w run
