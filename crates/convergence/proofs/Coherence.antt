-- In every run what a network advertised over a link that is up is what it tells now, and over one that is down it is nothing.
-- Assumes nothing.
use Rattle.std.proofs.Common.{◌≡◌, ℕ, ◌<◌, Bool, true, false, cond, eqb, ltb, Some, None, Option, sym, refl, ap, ◌∙◌, subst}
use Rattle.std.proofs.lemmas.Bool.{and_from, and_left, and_right, both_ways, cond-true, cond-false, lt-ltb}
use Rattle.model.specs.Selection.{choose}
use Rattle.model.specs.Export.{tells}
use Rattle.model.specs.declared.fault.Fault.{Fault}
use Rattle.model.specs.World.{World}
use Rattle.model.specs.Local.{Update, Local, at, due, retold, tells_now}
use Rattle.model.specs.Hearing.{after_hearing, after_turning, every, forgotten, hearing_fault, only, replaced, turning_fault, unless}
use Rattle.model.specs.Run.{update, packet, State, Move, Change, Send, Reach}
use Rattle.model.specs.Steps.{hears, turns, start, move, change, send}
use Rattle.model.specs.Steps as Steps
use Rattle.model.specs.Packets.{Lookup}
use Rattle.convergence.proofs.Places.{at_cases, at_other}

pub record Coherent (w : World) (i : ℕ) (l : Local) : Type 0 where
  pub told : (b k : ℕ) → b < w.blocks → k < w.n → l.up k ≡ true → l.advertised b k ≡ tells_now w i l b k
  pub untold : (b k : ℕ) → l.up k ≡ false → l.advertised b k ≡ None

module _ (w : World) (i : ℕ) (these : ℕ → Bool) (l : Local) where
  -- the blocks that are told anew, and the others if they were told as they go
  retold_coherent : ((b k : ℕ) → these b ≡ false → b < w.blocks → k < w.n → l.up k ≡ true → l.advertised b k ≡ tells_now w i l b k) → ((b k : ℕ) → l.up k ≡ false → l.advertised b k ≡ None) → Coherent w i (retold w i these l)
  retold_coherent others none =
      record {
        told = λ b k hb hk up. by b k (these b) refl hb hk up;
        untold = λ b k down. cond-false (due w these l b k) (tells_now w i l b k) (l.advertised b k) (and_right _ (l.up k) down) ∙ none b k down;
      }
    where
      by : (b k : ℕ) (t : Bool) → these b ≡ t → b < w.blocks → k < w.n → l.up k ≡ true → cond (due w these l b k) (tells_now w i l b k) (l.advertised b k) ≡ tells_now w i l b k
      by b k true e hb hk up =
          cond-true (due w these l b k) (tells_now w i l b k) (l.advertised b k)
          (and_from _ _ (and_from _ _ (and_from _ _ e (lt-ltb b w.blocks hb)) (lt-ltb k w.n hk)) up)
      by b k false e hb hk up =
          cond-false (due w these l b k) (tells_now w i l b k) (l.advertised b k) (and_left _ (l.up k) (and_left _ (ltb k w.n) (and_left (these b) (ltb b w.blocks) e))) ∙ others b k e hb hk up

hear_coherent : (w : World) (i j : ℕ) (u : Update) (l : Local) → Coherent w i l → Coherent w i (after_hearing w i j u l)
hear_coherent w i j u l h = by (hearing_fault w i l j u)
  where
    -- what was received of other blocks stays
    row : (b : ℕ) → only u.block b ≡ false → (replaced j u l).received b ≡ l.received b
    row b e = cond-false (eqb b u.block) (at j u.says (l.received u.block)) (l.received b) e

    by : (f : Option Fault) → Coherent w i (unless f l (retold w i (only u.block) (replaced j u l)))
    by (Some f) = h
    by None =
        retold_coherent w i (only u.block) (replaced j u l)
        (λ b k e hb hk up. h.told b k hb hk up ∙ ap (λ r. tells (w.rel i) l.up i k (choose (w.order i) (w.rel i) l.up i (w.is_home b i) r w.n)) (sym (row b e)))
        h.untold

turn_coherent : (w : World) (i j : ℕ) (up : Bool) (l : Local) → Coherent w i l → Coherent w i (after_turning w i j up l)
turn_coherent w i j up l h = by (turning_fault w i j)
  where
    by : (f : Option Fault) → Coherent w i (unless f l (retold w i every (forgotten j up l)))
    by (Some f) = h
    by None =
        retold_coherent w i every (forgotten j up l) (λ b k e hb hk _. absurd (both_ways true e refl))
        (λ b k down. at_cases (λ x. x ≡ None) j None (l.advertised b) k (λ _. refl) (λ ne. h.untold b k (sym (at_other j up l.up k ne) ∙ down)))

-- one network makes a step
at_coherent : (w : World) (locals : ℕ → Local) (j : ℕ) (l : Local) → ((i : ℕ) → Coherent w i (locals i)) → Coherent w j l → (a : ℕ) → Coherent w a (at j l locals a)
at_coherent w locals j l h c a = at_cases (Coherent w a) j l locals a (λ f. subst (λ y. Coherent w y l) (sym f) c) (λ _. h a)

move_coherent : (w : World) (find : Lookup) {s t : State} → ((i : ℕ) → Coherent w i (s.locals i)) → Move w find s t → (i : ℕ) → Coherent w i (t.locals i)
move_coherent w find h (hears s i j (update u) rest hi hj e) = at_coherent w s.locals j (after_hearing w j i u (s.locals j)) h (hear_coherent w j i u (s.locals j) (h j))
move_coherent w find h (hears s i j (packet p) rest hi hj e) = at_coherent w s.locals j (s.locals j) h (h j)

change_coherent : (w : World) (find : Lookup) {s t : State} → ((i : ℕ) → Coherent w i (s.locals i)) → Change w find s t → (i : ℕ) → Coherent w i (t.locals i)
change_coherent w find h (turns s i j b hi hj ne r) =
    at_coherent w (at j (after_turning w j i b (s.locals j)) s.locals) i (after_turning w i j b (s.locals i))
    (at_coherent w s.locals j (after_turning w j i b (s.locals j)) h (turn_coherent w j i b (s.locals j) (h j))) (turn_coherent w i j b (s.locals i) (h i))

send_coherent : (w : World) (find : Lookup) {s t : State} → ((i : ℕ) → Coherent w i (s.locals i)) → Send w find s t → (i : ℕ) → Coherent w i (t.locals i)
send_coherent w find h (Steps.sends s i address hi known) = at_coherent w s.locals i (s.locals i) h (h i)

every_coherent : (find : Lookup) (w : World) {s : State} → Reach w find s → (i : ℕ) → Coherent w i (s.locals i)
every_coherent find w (start x) i = record { told = λ b k hb hk up. absurd (both_ways false refl up); untold = λ b k down. refl }
every_coherent find w (move r m) i = move_coherent w find (every_coherent find w r) m i
every_coherent find w (change r c) i = change_coherent w find (every_coherent find w r) c i
every_coherent find w (send r c) i = send_coherent w find (every_coherent find w r) c i

pub run_coherent : (w : World) (find : Lookup) {s : State} → Reach w find s → (i : ℕ) → Coherent w i (s.locals i)
run_coherent w find = every_coherent find w
