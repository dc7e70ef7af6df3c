-- Every state of every run has what every step keeps. Assumes nothing.
use Rattle.std.proofs.Common.{◌≡◌, ℕ, false, List, ◌∷◌, sym, refl, subst}
use Rattle.std.proofs.lemmas.Bool.{both_ways}
use Rattle.model.specs.World.{World, Sound}
use Rattle.model.specs.Packets.{Packet, forwarded, Lookup}
use Rattle.model.specs.Run.{Item, update, packet, State, begin, fresh, onward, posted, taken, Move, Change, Send, Reach}
use Rattle.model.specs.Steps.{hears, turns, start, move, change, send}
use Rattle.model.specs.Steps as Steps
use Rattle.convergence.proofs.Places.{at_same, at_twice}
use Rattle.convergence.proofs.Keeping.{Kept}
use Rattle.convergence.proofs.Emitting.{Emits, emit_kept}
use Rattle.convergence.proofs.Taking.{delivered, take_kept}
use Rattle.convergence.proofs.Sending.{packet_emits}
use Rattle.convergence.proofs.Delivery.{hear_kept}
use Rattle.convergence.proofs.Flips.{turn_kept}

begin_kept : (w : World) → Kept w begin
begin_kept w =
    record {
      both = λ i k. refl;
      tied = λ i k e. absurd (both_ways false refl e);
      idle = λ i k e. refl;
      newest = λ i k b. refl;
      held = λ i b k. tt;
      flying = λ i k. tt;
    }

-- a packet is carried on
carry_kept : (w : World) (find : Lookup) (s : State) → Kept w s → (i j : ℕ) (p : Packet) (rest : List Item) → s.flight i j ≡ packet p ∷ rest → Kept w (taken w find i j (packet p) rest s)
carry_kept w find s h i j p rest first =
    subst (Kept w) (λ x. record { locals = λ a. at_twice j (s.locals j) (s.locals j) s.locals a x; flight = (taken w find i j (packet p) rest s).flight })
    (emit_kept w (delivered i j (s.locals j) rest s)
    (take_kept w s h i j (packet p) rest first (s.locals j) (record { up = λ k. refl; advertised = λ b k. refl; received = λ b. refl; others = λ b k _. refl }) (h.held j))
    j (s.locals j) (onward (forwarded w find j (s.locals j) p))
    (subst (λ l. Emits w j l (s.locals j) (onward (forwarded w find j (s.locals j) p))) (sym (at_same j (s.locals j) s.locals)) (packet_emits w find j (s.locals j) p)))

post_kept : (w : World) (find : Lookup) (s : State) → Kept w s → (i address : ℕ) → Kept w (posted w find i address s)
post_kept w find s h i address =
    emit_kept w s h i (s.locals i) (onward (forwarded w find i (s.locals i) (fresh address))) (packet_emits w find i (s.locals i) (fresh address))

move_kept : (w : World) (find : Lookup) → Sound w → {s t : State} → Kept w s → Move w find s t → Kept w t
move_kept w find sound h (hears s i j (update u) rest hi hj e) = hear_kept w sound s h i j u rest e find
move_kept w find sound h (hears s i j (packet p) rest hi hj e) = carry_kept w find s h i j p rest e

change_kept : (w : World) (find : Lookup) → Sound w → {s t : State} → Kept w s → Change w find s t → Kept w t
change_kept w find sound h (turns s i j b hi hj ne r) = turn_kept w sound s h i j b (record { here = hi; there = hj; apart = ne; related = r }) find

send_kept : (w : World) (find : Lookup) → {s t : State} → Kept w s → Send w find s t → Kept w t
send_kept w find h (Steps.sends s i address hi known) = post_kept w find s h i address

every_kept : (find : Lookup) (w : World) → Sound w → {s : State} → Reach w find s → Kept w s
every_kept find w sound (start x) = begin_kept w
every_kept find w sound (move r m) = move_kept w find sound (every_kept find w sound r) m
every_kept find w sound (change r c) = change_kept w find sound (every_kept find w sound r) c
every_kept find w sound (send r c) = send_kept w find (every_kept find w sound r) c

pub run_kept : (w : World) (find : Lookup) → Sound w → {s : State} → Reach w find s → Kept w s
run_kept w find = every_kept find w
