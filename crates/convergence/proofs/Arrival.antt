-- When no update is in flight, packets arrive. Assumes nothing.
use Rattle.std.proofs.Common.{⊎_elim, ◌≡◌, ℕ, zero, suc, ◌+◌, ◌<◌, ◌≤◌, Bool, true, false, cond, ltb, List, [], ◌∷◌, length, Some, None, sym, refl, ap, ◌∙◌, subst, arith}
use Rattle.std.proofs.lemmas.Bool.{cases_Bool, and_from, cond-false, cond-true, lt-ltb, or_from}
use Rattle.model.specs.Selection.{Choice, nothing, local, via, Said}
use Rattle.model.specs.Paths.{Path, passes, below, repeats}
use Rattle.model.proofs.Chosen.{own_home}
use Rattle.model.specs.ExportLaws.{FrontOf}
use Rattle.model.specs.Export.{told}
use Rattle.model.proofs.Told.{begins_with_teller_lem}
use Rattle.model.specs.World.{World, Sound}
use Rattle.model.specs.Local.{Local, choice}
use Rattle.model.specs.Packets.{Forwarded, Trip, Packet, arrived, forwarded, by_choice, hand, of_block, ending, trip, Lookup}
use Rattle.model.specs.Run.{State, links, Reach, Quiescent}
use Rattle.model.specs.Promise.{ArrivesHome, ProperChoice}
use Rattle.model.specs.PromiseLaws.{Arrives}
use Rattle.convergence.proofs.Goodness.{choice_proper, chosen_is, never}
use Rattle.convergence.proofs.Keeping.{Kept}
use Rattle.convergence.proofs.Steps.{run_kept}
use Rattle.convergence.proofs.Quiescence.{advertised_is_told, received_is_advertised}
use Rattle.convergence.proofs.Pigeons.{pigeons}

-- at a home a packet has arrived
at_home : (w : World) (find : Lookup) (b : ℕ) (i : ℕ) (l : Local) (p : Packet) → find p.address ≡ Some b → w.is_home b i ≡ true → forwarded w find i l p ≡ arrived
at_home w find b i l p e home = ap (of_block w i l p) e ∙ cond-true (w.is_home b i) arrived (by_choice p (choice w i l b)) home

-- elsewhere it goes the way of its block
on_its_way : (w : World) (find : Lookup) (b : ℕ) (i : ℕ) (l : Local) (p : Packet) (j : ℕ) (path : Path) → find p.address ≡ Some b → choice w i l b ≡ via j path → forwarded w find i l p ≡ hand p.address j p.hops
on_its_way w find b i l p j path e c =
    ap (of_block w i l p) e ∙ cond-false (w.is_home b i) arrived (by_choice p (choice w i l b)) (⊎_elim (λ t. absurd (away t)) (λ f. f) (cases_Bool (w.is_home b i))) ∙ ap (by_choice p) c
  where
    away : w.is_home b i ≡ true → ⊥
    away home = let own = (own_home (w.order i) (w.rel i) l.up i (w.is_home b i) (l.received b) w.n).1 home in let z : ◌≡◌ {A = ℕ} 0 1 = cc in omega arith

-- a trip from a home ends there
arrives_home : (w : World) (b i steps k : ℕ) (o : Forwarded) (further : ℕ → Packet → Trip) → w.is_home b i ≡ true → o ≡ arrived → steps ≡ k → ArrivesHome w b k (ending further i steps o)
arrives_home w b i steps k o further home e count = subst (λ x. ArrivesHome w b k (ending further i steps x)) (sym e) (home, count)

module _ (w : World) (find : Lookup) (sound : Sound w) (s : State) (run : Reach w find s) (quiet : Quiescent s) (b : ℕ) (hb : b < w.blocks) where
  -- the path by j is j followed by its own
  follows : (i j : ℕ) (path : Path) → i < w.n → choice w i (s.locals i) b ≡ via j path → FrontOf j path (choice w j (s.locals j) b)
  follows i j path hi e =
      begins_with_teller_lem (w.rel j) j i (choice w j (s.locals j) b) path
      (up (links s j i) (told (w.rel j) j i (choice w j (s.locals j) b)) path (sym (received_is_advertised w find sound s run quiet i j b ∙ advertised_is_told w find sound s run quiet j i b hi hb) ∙ (chosen_is w i (s.locals i) b j path e).received))
    where
      up : (t : Bool) (o : Said) (p : Path) → cond t o None ≡ Some p → o ≡ Some p
      up true o p e = e
      up false o p e = never p e

  -- a packet that goes by this path comes to a home after as many steps as it has networks
  abbrev Travels : List ℕ → Type 0
  Travels xs = (i j steps : ℕ) (p : Packet) → i < w.n → find p.address ≡ Some b → choice w i (s.locals i) b ≡ via j (record { networks = xs }) → length xs ≤ p.hops → ArrivesHome w b (steps + length xs) (trip w find s.locals (suc (length xs)) steps i p)

  -- from the next network on
  further : (x : ℕ) (xs : List ℕ) → Travels xs → (j steps : ℕ) (q : Packet) → j < w.n → find q.address ≡ Some b → length xs ≤ q.hops → (c : Choice) → choice w j (s.locals j) b ≡ c → FrontOf j (record { networks = x ∷ xs }) c → ArrivesHome w b (steps + suc (length xs)) (trip w find s.locals (suc (length xs)) (suc steps) j q)
  further x xs ih j steps q hj at enough nothing e f = absurd f
  further x xs ih j steps q hj at enough local e f =
      let home = (own_home (w.order j) (w.rel j) (s.locals j).up j (w.is_home b j) ((s.locals j).received b) w.n).0 e in
      let short = ap (λ y. length y.networks) f in
      let count : suc steps ≡ steps + suc (length xs) = omega (arith, short) in
      arrives_home w b j (suc steps) (steps + suc (length xs)) (forwarded w find j (s.locals j) q) (λ k r. trip w find s.locals (length xs) (suc (suc steps)) k r) home (at_home w find b j (s.locals j) q at home) count
  further x xs ih j steps q hj at enough (via k path) e f =
      let lists : (j ∷ path.networks) ≡ (x ∷ xs) = sym (ap (λ y. y.networks) f) in
      let same : path.networks ≡ xs = cc in
      let count : suc steps + length xs ≡ steps + suc (length xs) = omega arith in
      subst (λ m. ArrivesHome w b m (trip w find s.locals (suc (length xs)) (suc steps) j q)) count (ih j k (suc steps) q hj at (e ∙ (λ y. via k (record { networks = same y }))) enough)

  travels : (xs : List ℕ) → Travels xs
  travels [] i j steps p hi at c enough = absurd (none (choice w j (s.locals j) b) (follows i j (record { networks = [] }) hi c))
    where
      none : (d : Choice) → FrontOf j (record { networks = [] }) d → ⊥
      none nothing f = f
      none local f = let z = ap (λ y. length y.networks) f in omega (arith, z)
      none (via k path) f = let z = ap (λ y. length y.networks) f in omega (arith, z)
  travels (x ∷ xs) i j steps p hi at c enough =
      subst (λ o. ArrivesHome w b (steps + suc (length xs)) (ending (λ k q. trip w find s.locals (suc (length xs)) (suc steps) k q) i steps o))
      (sym (on_its_way w find b i (s.locals i) p j (record { networks = x ∷ xs }) at c))
      (handed_on (travels xs) p.hops enough)
    where
      handed_on : Travels xs → (hops : ℕ) → suc (length xs) ≤ hops → ArrivesHome w b (steps + suc (length xs)) (ending (λ k q. trip w find s.locals (suc (length xs)) (suc steps) k q) i steps (hand p.address j hops))
      handed_on ih zero l = absurd (omega arith)
      handed_on ih (suc hops) l =
          further x xs ih j steps (record { address = p.address; hops = hops }) (chosen_is w i (s.locals i) b j (record { networks = x ∷ xs }) c).there at (omega arith)
          (choice w j (s.locals j) b) refl (follows i j (record { networks = x ∷ xs }) hi c)

-- a path that is gone by passes at most all other networks
pub short_enough : (w : World) (s : State) → Kept w s → (i b j : ℕ) (path : Path) → i < w.n → choice w i (s.locals i) b ≡ via j path → length path.networks < w.n
short_enough w s h i b j path hi e =
    let p : ProperChoice w i b (via j path) = subst (ProperChoice w i b) e (choice_proper w i (s.locals i) b (h.held i)) in
    pigeons w.n (i ∷ path.networks) (and_from (ltb i w.n) (below w.n path.networks) (lt-ltb i w.n hi) p.0.within) (or_from (passes i path.networks) (repeats path.networks) p.1 p.0.once)

pub arrive : Arrives
arrive w find sound s run quiet =
    record {
      exact = λ i b j path p hi hb at c enough. subst (λ m. ArrivesHome w b m (trip w find s.locals (suc (length path.networks)) 0 i p)) (omega arith) (travels w find sound s run quiet b hb path.networks i j 0 p hi at c enough);
      enough = λ i b j path hi e. short_enough w s (run_kept w find sound run) i b j path hi e;
      home = λ i b p at home. at_home w find b i (s.locals i) p at home;
    }
