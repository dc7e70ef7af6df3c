-- An update that is heard in a run is not refused, and keeps what every step keeps. Assumes nothing.
use Rattle.std.proofs.Common.{◌≡◌, ℕ, Bool, true, false, cond, eqb, List, [], ◌∷◌, None, sym, refl, ap, ◌∙◌, subst}
use Rattle.std.specs.List.{AllByRecursion}
use Rattle.model.specs.World.{World, Sound}
use Rattle.model.specs.Local.{Update, Local, at, retold, sent}
use Rattle.model.specs.Hearing.{hearing_fault, only, replaced, unless}
use Rattle.model.specs.Packets.{Lookup}
use Rattle.model.specs.Run.{Item, update, State, taken, updates}
use Rattle.model.specs.Steps.{appended, queued}
use Rattle.model.specs.Promise.{ProperItem}
use Rattle.model.specs.RouterLaws.{HoldsProper}
use Rattle.model.proofs.Holding.{stays_proper}
use Rattle.convergence.proofs.Unrefused.{not_refused}
use Rattle.convergence.proofs.Places.{at_other, at_same, at_twice, at_cases}
use Rattle.convergence.proofs.Keeping.{Tied, Kept, flies_up, tied_back}
use Rattle.convergence.proofs.Emitting.{Emits, emitted, emit_kept}
use Rattle.convergence.proofs.Taking.{Takes, delivered, take_kept}
use Rattle.convergence.proofs.Sending.{tells_emits}

-- what was received is replaced
pub replaced_takes : (i : ℕ) (u : Update) (l : Local) → Takes i (update u) l (replaced i u l)
replaced_takes i u l =
    record {
      up = λ k. refl;
      advertised = λ b k. refl;
      received = λ b. mine b (eqb b u.block);
      others = λ b k ne. at_cases (λ row. row k ≡ l.received b k) u.block (at i u.says (l.received u.block)) l.received b (λ e. at_other i u.says (l.received u.block) k ne ∙ ap (λ y. l.received y k) (sym e)) (λ _. refl);
    }
  where
    mine : (b : ℕ) (t : Bool) → cond t (at i u.says (l.received u.block)) (l.received b) i ≡ cond t u.says (l.received b i)
    mine b true = at_same i u.says (l.received u.block)
    mine b false = refl

module _ (w : World) (sound : Sound w) (s : State) (h : Kept w s) (i j : ℕ) (u : Update) (rest : List Item) (first : s.flight i j ≡ update u ∷ rest) where
  joined : Tied w i j
  joined = h.tied i j (flies_up w s h i j (update u) rest first)

  good : ProperItem w j i (update u)
  good = (subst (AllByRecursion (ProperItem w j i)) first (h.flying i j)).0

  pub unrefused : hearing_fault w j (s.locals j) i u ≡ None
  unrefused =
      not_refused w j (s.locals j) i u joined.here good.0 (tied_back w sound i j joined).related
      (h.both j i ∙ flies_up w s h i j (update u) rest first) good.1

  abbrev then : Local
  then = replaced i u (s.locals j)

  then_holds : HoldsProper w j then
  then_holds = subst (λ f. HoldsProper w j (unless f (s.locals j) (retold w j (only u.block) then))) unrefused (stays_proper.hearing w j i u (s.locals j) (h.held j))

  abbrev told_on : State
  told_on = emitted j (retold w j (only u.block) then) (λ k. updates (sent w j (only u.block) then k)) (delivered i j then rest s)

  told_on_kept : Kept w told_on
  told_on_kept =
      emit_kept w (delivered i j then rest s) (take_kept w s h i j (update u) rest first then (replaced_takes i u (s.locals j)) then_holds) j
      (retold w j (only u.block) then) (λ k. updates (sent w j (only u.block) then k))
      (subst (λ l. Emits w j l (retold w j (only u.block) then) (λ k. updates (sent w j (only u.block) then k))) (sym (at_same j then s.locals))
      (tells_emits w sound j (only u.block) then joined.there then_holds))

  told_on_is : (find : Lookup) → told_on ≡ taken w find i j (update u) rest s
  told_on_is find =
      (λ x. record { locals = λ a. at_twice j (retold w j (only u.block) then) then s.locals a x; flight = told_on.flight }) ∙
      (λ x. record {
        locals = at j (unless (sym unrefused x) (s.locals j) (retold w j (only u.block) then)) s.locals;
        flight = appended j (λ k. updates (unless (sym unrefused x) [] (sent w j (only u.block) then k))) (queued i j rest s.flight);
      })

  pub hear_kept : (find : Lookup) → Kept w (taken w find i j (update u) rest s)
  hear_kept find = subst (Kept w) (told_on_is find) told_on_kept
