-- What is held stays proper. Assumes nothing.
use Rattle.std.proofs.Common.{◌≡◌, ℕ, ◌<◌, Bool, eqb, ltb, length, Some, None, Option, sym, refl, subst, ⊎_elim, arith}
use Rattle.std.proofs.lemmas.Bool.{cases_eq, cond-true, cond-false, eq-eqb, ne_eqb, or_parts, not-false, cond_both, ltb-false, eqb-false}
use Rattle.model.specs.declared.fault.Fault.{Fault}
use Rattle.model.specs.World.{World}
use Rattle.model.specs.Local.{Update, Local, at, retold}
use Rattle.model.specs.Hearing.{after_hearing, after_turning, every, forgotten, hearing_fault, only, replaced, turning_fault, unless}
use Rattle.model.specs.Promise.{ProperSaying}
use Rattle.model.specs.RouterLaws.{HoldsProper, StaysProper}
use Rattle.model.proofs.Faults.{Faultless, faultless}
use Rattle.model.specs.Ports.{Port}
use Rattle.model.specs.Selection.{Said}
use Rattle.model.specs.declared.limits.TheConstants.{MOST_NETWORKS}

-- what is not refused is proper
taken_proper : (w : World) (i : ℕ) (j : Port) (block : ℕ) (s : Local) (says : Said) → Faultless w i s j (record { block = block; says = says }) → ProperSaying w i j block says
taken_proper w i j block s None h = tt
taken_proper w i j block s (Some p) h =
    let long = or_parts (eqb (length p.networks) 0) (ltb MOST_NETWORKS (length p.networks)) h.length in
    record {
      some = positive (length p.networks) (eqb-false (length p.networks) 0 long.0);
      short = ltb-false MOST_NETWORKS (length p.networks) long.1;
      within = not-false _ h.within;
      first = not-false _ h.first;
      last = not-false _ h.last;
      once = h.once;
      paid = not-false _ h.paid;
    }
  where
    positive : (n : ℕ) → (n ≡ 0 → ⊥) → 0 < n
    positive n h = omega arith

-- one saying put at one place
at_proper : (w : World) (i j block : ℕ) (says : Said) (rows : ℕ → ℕ → Said) → ProperSaying w i j block says → ((b k : ℕ) → ProperSaying w i k b (rows b k)) → (b k : ℕ) → ProperSaying w i k b (at block (at j says (rows block)) rows b k)
at_proper w i j block says rows new old b k =
    ⊎_elim
    (λ e. subst (λ (row : ℕ → Said). ProperSaying w i k b (row k)) (sym (cond-true (eqb b block) (at j says (rows block)) (rows b) (eq-eqb b block e)))
    (subst (λ c. ProperSaying w i k c (at j says (rows block) k)) (sym e)
    (⊎_elim
    (λ f. subst (ProperSaying w i k block) (sym (cond-true (eqb k j) _ _ (eq-eqb k j f))) (subst (λ z. ProperSaying w i z block says) (sym f) new))
    (λ nf. subst (ProperSaying w i k block) (sym (cond-false (eqb k j) _ _ (ne_eqb k j nf))) (old block k))
    (cases_eq k j))))
    (λ ne. subst (λ (row : ℕ → Said). ProperSaying w i k b (row k)) (sym (cond-false (eqb b block) (at j says (rows block)) (rows b) (ne_eqb b block ne))) (old b k))
    (cases_eq b block)

hearing_proper : (w : World) (i j : ℕ) (u : Update) (s : Local) → HoldsProper w i s → HoldsProper w i (after_hearing w i j u s)
hearing_proper w i j u s h = by (hearing_fault w i s j u) refl
  where
    by : (f : Option Fault) → hearing_fault w i s j u ≡ f → HoldsProper w i (unless f s (retold w i (only u.block) (replaced j u s)))
    by (Some f) e = h
    by None e = at_proper w i j u.block u.says s.received (taken_proper w i j u.block s u.says (faultless w i s j u e)) h

turning_proper : (w : World) (i j : ℕ) (up : Bool) (s : Local) → HoldsProper w i s → HoldsProper w i (after_turning w i j up s)
turning_proper w i j up s h = by (turning_fault w i j)
  where
    by : (f : Option Fault) → HoldsProper w i (unless f s (retold w i every (forgotten j up s)))
    by (Some f) = h
    by None = λ b k. cond_both (eqb k j) None (s.received b k) (ProperSaying w i k b) (λ _. tt) (λ _. h b k)

pub stays_proper : StaysProper
stays_proper = record { first = λ w i b j. tt; hearing = hearing_proper; turning = turning_proper }
