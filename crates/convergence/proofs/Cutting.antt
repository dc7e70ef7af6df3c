-- To forget what went over one link, at both ends, keeps what every step keeps. Assumes nothing.
use Rattle.std.proofs.Common.{◌≡◌, ℕ, Bool, true, false, cond, ◌⊎◌, [], None, sym, refl, ap, ◌∙◌, subst, ⊎_elim, arith}
use Rattle.std.specs.List.{AllByRecursion}
use Rattle.std.proofs.lemmas.Bool.{cases_Bool, cond_both, cond-false}
use Rattle.std.proofs.lemmas.Bool.Decides.{nat_tests}
use Rattle.model.specs.World.{World}
use Rattle.model.specs.Local.{Local, at}
use Rattle.model.specs.Hearing.{forgotten}
use Rattle.model.specs.Run.{State}
use Rattle.model.specs.Steps.{queued}
use Rattle.model.specs.Promise.{ProperItem, ProperSaying}
use Rattle.convergence.proofs.Newest.{newest}
use Rattle.convergence.proofs.Places.{at_cases, crosses, crosses_back, emptied}
use Rattle.convergence.proofs.Keeping.{Tied, Kept}

-- what went over one link is forgotten at both ends, and what is in flight over it is lost
abbrev pub cut : ℕ → ℕ → Bool → State → State
cut i j b s = record {
  locals = at i (forgotten j b (s.locals i)) (at j (forgotten i b (s.locals j)) s.locals);
  flight = queued i j [] (queued j i [] s.flight);
}

crossed : (i j a k : ℕ) → crosses i j a k ≡ true → ((a ≡ i) × (k ≡ j)) ⊎ ((a ≡ j) × (k ≡ i))
crossed i j a k e = grind (arith, nat_tests)

module _ (w : World) (s : State) (h : Kept w s) (i j : ℕ) (b : Bool) (there : Tied w i j) (back : Tied w j i) where
  abbrev after : ℕ → Local
  after = at i (forgotten j b (s.locals i)) (at j (forgotten i b (s.locals j)) s.locals)

  -- at either end, and elsewhere
  cut_cases : (P : ℕ → Local → Type 0) → P i (forgotten j b (s.locals i)) → P j (forgotten i b (s.locals j)) → ((a : ℕ) → (a ≡ i → ⊥) → (a ≡ j → ⊥) → P a (s.locals a)) → (a : ℕ) → P a (after a)
  cut_cases P pi pj pa a =
      at_cases (P a) i (forgotten j b (s.locals i)) (at j (forgotten i b (s.locals j)) s.locals) a
      (λ e. subst (λ y. P y (forgotten j b (s.locals i))) (sym e) pi)
      (λ ne. at_cases (P a) j (forgotten i b (s.locals j)) s.locals a (λ e. subst (λ y. P y (forgotten i b (s.locals j))) (sym e) pj) (λ nf. pa a ne nf))

  cut_up : (a k : ℕ) → (after a).up k ≡ cond (crosses i j a k) b ((s.locals a).up k)
  cut_up a k = let ne = there.apart in cut_cases (λ a l. l.up k ≡ cond (crosses i j a k) b ((s.locals a).up k)) (grind (arith, nat_tests)) (grind (arith, nat_tests)) (λ a n m. grind (arith, nat_tests)) a

  cut_received : (a c k : ℕ) → (after a).received c k ≡ cond (crosses i j a k) None ((s.locals a).received c k)
  cut_received a c k = let ne = there.apart in cut_cases (λ a l. l.received c k ≡ cond (crosses i j a k) None ((s.locals a).received c k)) (grind (arith, nat_tests)) (grind (arith, nat_tests)) (λ a n m. grind (arith, nat_tests)) a

  cut_advertised : (a c k : ℕ) → (after a).advertised c k ≡ cond (crosses i j a k) None ((s.locals a).advertised c k)
  cut_advertised a c k = let ne = there.apart in cut_cases (λ a l. l.advertised c k ≡ cond (crosses i j a k) None ((s.locals a).advertised c k)) (grind (arith, nat_tests)) (grind (arith, nat_tests)) (λ a n m. grind (arith, nat_tests)) a

  cut_both : (a k : ℕ) → (after a).up k ≡ (after k).up a
  cut_both a k = cut_up a k ∙ (λ x. cond (crosses_back i j a k x) b (h.both a k x)) ∙ sym (cut_up k a)

  cut_tied : (a k : ℕ) → (after a).up k ≡ true → Tied w a k
  cut_tied a k e =
      ⊎_elim
      (λ t. ⊎_elim
      (λ p. subst (λ y. Tied w y k) (sym p.0) (subst (Tied w i) (sym p.1) there))
      (λ p. subst (λ y. Tied w y k) (sym p.0) (subst (Tied w j) (sym p.1) back))
      (crossed i j a k t))
      (λ f. h.tied a k (sym (cond-false (crosses i j a k) b _ f) ∙ sym (cut_up a k) ∙ e))
      (cases_Bool (crosses i j a k))

  cut_idle : (a k : ℕ) → (after a).up k ≡ false → queued i j [] (queued j i [] s.flight) a k ≡ []
  cut_idle a k e =
      emptied i j s.flight a k ∙
      cond_both (crosses i j a k) [] (s.flight a k) (λ xs. xs ≡ []) (λ _. refl) (λ f. h.idle a k (sym (cond-false (crosses i j a k) b _ f) ∙ sym (cut_up a k) ∙ e))

  cut_newest : (a k c : ℕ) → newest c (queued i j [] (queued j i [] s.flight) a k) ((after k).received c a) ≡ (after a).advertised c k
  cut_newest a k c =
      (λ x. newest c (emptied i j s.flight a k x) ((cut_received k c a ∙ ap (λ t. cond t None ((s.locals k).received c a)) (crosses_back i j k a)) x)) ∙
      by (crosses i j a k) ∙ sym (cut_advertised a c k)
    where
      by : (t : Bool) → newest c (cond t [] (s.flight a k)) (cond t None ((s.locals k).received c a)) ≡ cond t None ((s.locals a).advertised c k)
      by true = refl
      by false = h.newest a k c

  pub cut_kept : Kept w (cut i j b s)
  cut_kept =
      record {
        both = cut_both;
        tied = cut_tied;
        idle = cut_idle;
        newest = cut_newest;
        held = λ a c k. subst (ProperSaying w a k c) (sym (cut_received a c k)) (cond_both (crosses i j a k) None ((s.locals a).received c k) (ProperSaying w a k c) (λ _. tt) (λ _. h.held a c k));
        flying = λ a k. subst (AllByRecursion (ProperItem w k a)) (sym (emptied i j s.flight a k)) (cond_both (crosses i j a k) [] (s.flight a k) (AllByRecursion (ProperItem w k a)) (λ _. tt) (λ _. h.flying a k));
      }
