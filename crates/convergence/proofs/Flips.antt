-- A link that turns keeps what every step keeps. Assumes nothing.
use Rattle.std.proofs.Common.{◌≡◌, ℕ, Bool, [], sym, ◌∙◌, subst}
use Rattle.model.specs.World.{World, Sound}
use Rattle.model.specs.Local.{Local, at, retold, sent}
use Rattle.model.specs.Hearing.{every, forgotten, unless}
use Rattle.model.specs.Packets.{Lookup}
use Rattle.model.specs.Run.{State, turned, updates}
use Rattle.model.specs.Steps.{appended, queued}
use Rattle.model.specs.RouterLaws.{HoldsProper}
use Rattle.model.proofs.Faults.{no_turning_fault}
use Rattle.convergence.proofs.Places.{at_other, at_same, at_swap}
use Rattle.convergence.proofs.Keeping.{Tied, Kept, tied_back}
use Rattle.convergence.proofs.Emitting.{Emits, emitted, emit_kept}
use Rattle.convergence.proofs.Cutting.{cut, cut_kept}
use Rattle.convergence.proofs.Sending.{tells_emits}

module _ (w : World) (sound : Sound w) (s : State) (h : Kept w s) (i j : ℕ) (b : Bool) (there : Tied w i j) where
  abbrev li : Local
  li = forgotten j b (s.locals i)

  abbrev lj : Local
  lj = forgotten i b (s.locals j)

  abbrev once : State
  once = emitted i (retold w i every li) (λ k. updates (sent w i every li k)) (cut i j b s)

  abbrev twice : State
  twice = emitted j (retold w j every lj) (λ k. updates (sent w j every lj k)) once

  cut_held : Kept w (cut i j b s)
  cut_held = cut_kept w s h i j b there (tied_back w sound i j there)

  at_i : (cut i j b s).locals i ≡ li
  at_i = at_same i li (at j lj s.locals)

  once_kept : Kept w once
  once_kept =
      emit_kept w (cut i j b s) cut_held i (retold w i every li) (λ k. updates (sent w i every li k))
      (subst (λ l. Emits w i l (retold w i every li) (λ k. updates (sent w i every li k))) (sym at_i)
      (tells_emits w sound i every li there.here (subst (HoldsProper w i) at_i (cut_held.held i))))

  at_j : once.locals j ≡ lj
  at_j = at_other i (retold w i every li) (cut i j b s).locals j (λ e. there.apart (sym e)) ∙ at_other i li (at j lj s.locals) j (λ e. there.apart (sym e)) ∙ at_same j lj s.locals

  twice_kept : Kept w twice
  twice_kept =
      emit_kept w once once_kept j (retold w j every lj) (λ k. updates (sent w j every lj k))
      (subst (λ l. Emits w j l (retold w j every lj) (λ k. updates (sent w j every lj k))) (sym at_j)
      (tells_emits w sound j every lj there.there (subst (HoldsProper w j) at_j (once_kept.held j))))

  twice_is : (find : Lookup) → twice ≡ turned w find i j b s
  twice_is find =
      let fi = no_turning_fault w i j there.there there.related in
      let fj = no_turning_fault w j i there.here (tied_back w sound i j there).related in
      (λ x. record { locals = λ a. at_swap i j there.apart (retold w i every li) li (retold w j every lj) lj s.locals a x; flight = twice.flight }) ∙
      (λ x. record {
        locals = at i (unless (sym fi x) (s.locals i) (retold w i every li)) (at j (unless (sym fj x) (s.locals j) (retold w j every lj)) s.locals);
        flight = appended j (λ k. updates (unless (sym fj x) [] (sent w j every lj k))) (appended i (λ k. updates (unless (sym fi x) [] (sent w i every li k))) (queued i j [] (queued j i [] s.flight)));
      })

  pub turn_kept : (find : Lookup) → Kept w (turned w find i j b s)
  turn_kept find = subst (Kept w) (twice_is find) twice_kept
