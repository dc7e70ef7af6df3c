-- A network that sends what it then advertises keeps what every step keeps. Assumes nothing.
use Rattle.std.proofs.Common.{◌≡◌, ℕ, false, List, [], ◌++◌, sym, refl, ap, ◌∙◌, subst}
use Rattle.std.specs.List.{AllByRecursion}
use Rattle.std.proofs.ByRecursion.{All-append}
use Rattle.model.specs.World.{World}
use Rattle.model.specs.Local.{Local, at}
use Rattle.model.specs.Run.{Item, State}
use Rattle.model.specs.Steps.{appended}
use Rattle.model.specs.Promise.{ProperItem, ProperSaying}
use Rattle.convergence.proofs.Newest.{newest, newest_append}
use Rattle.convergence.proofs.Places.{appended_cases, at_cases}
use Rattle.convergence.proofs.Keeping.{Kept}

-- one network changes what it advertised, and sends what says so
pub record Emits (w : World) (i : ℕ) (l l' : Local) (more : ℕ → List Item) : Type 0 where
  pub up : (k : ℕ) → l'.up k ≡ l.up k
  pub received : (b k : ℕ) → l'.received b k ≡ l.received b k
  pub newest : (b k : ℕ) → newest b (more k) (l.advertised b k) ≡ l'.advertised b k
  pub idle : (k : ℕ) → l.up k ≡ false → more k ≡ []
  pub proper : (k : ℕ) → AllByRecursion (ProperItem w k i) (more k)

abbrev pub emitted : ℕ → Local → (ℕ → List Item) → State → State
emitted i l' more s = record { locals = at i l' s.locals; flight = appended i more s.flight }

module _ (w : World) (s : State) (h : Kept w s) (i : ℕ) (l' : Local) (more : ℕ → List Item) (e : Emits w i (s.locals i) l' more) where
  emit_up : (a k : ℕ) → (at i l' s.locals a).up k ≡ (s.locals a).up k
  emit_up a k = at_cases (λ l. l.up k ≡ (s.locals a).up k) i l' s.locals a (λ f. e.up k ∙ ap (λ x. (s.locals x).up k) (sym f)) (λ _. refl)

  emit_received : (a b k : ℕ) → (at i l' s.locals a).received b k ≡ (s.locals a).received b k
  emit_received a b k = at_cases (λ l. l.received b k ≡ (s.locals a).received b k) i l' s.locals a (λ f. e.received b k ∙ ap (λ x. (s.locals x).received b k) (sym f)) (λ _. refl)

  emit_idle : (a k : ℕ) → (s.locals a).up k ≡ false → appended i more s.flight a k ≡ []
  emit_idle a k down =
      appended_cases (λ xs. xs ≡ []) i more s.flight a k
      (λ f. (λ x. h.idle a k down x ++ e.idle k (ap (λ y. (s.locals y).up k) (sym f) ∙ down) x))
      (λ _. h.idle a k down)

  abbrev Ends : ℕ → ℕ → ℕ → List Item → Local → Type 0
  Ends a k b xs l = newest b xs ((s.locals k).received b a) ≡ l.advertised b k

  emit_newest : (a k b : ℕ) → Ends a k b (appended i more s.flight a k) (at i l' s.locals a)
  emit_newest a k b =
      at_cases (λ l. Ends a k b (appended i more s.flight a k) l) i l' s.locals a
      (λ f. appended_cases (λ xs. Ends a k b xs l') i more s.flight a k
      (λ _. newest_append b (s.flight a k) (more k) ((s.locals k).received b a) ∙ ap (newest b (more k)) (h.newest a k b ∙ ap (λ x. (s.locals x).advertised b k) f) ∙ e.newest b k)
      (λ ne. absurd (ne f)))
      (λ ne. appended_cases (λ xs. Ends a k b xs (s.locals a)) i more s.flight a k (λ f. absurd (ne f)) (λ _. h.newest a k b))

  pub emit_kept : Kept w (emitted i l' more s)
  emit_kept =
      record {
        both = λ a k. emit_up a k ∙ h.both a k ∙ sym (emit_up k a);
        tied = λ a k t. h.tied a k (sym (emit_up a k) ∙ t);
        idle = λ a k t. emit_idle a k (sym (emit_up a k) ∙ t);
        newest = λ a k b. ap (newest b (appended i more s.flight a k)) (emit_received k b a) ∙ emit_newest a k b;
        held = λ a b k. subst (ProperSaying w a k b) (sym (emit_received a b k)) (h.held a b k);
        flying = λ a k.
            appended_cases (AllByRecursion (ProperItem w k a)) i more s.flight a k
            (λ f. All-append (ProperItem w k a) (s.flight a k) (more k) (h.flying a k) (subst (λ x. AllByRecursion (ProperItem w k x) (more k)) (sym f) (e.proper k)))
            (λ _. h.flying a k);
      }
