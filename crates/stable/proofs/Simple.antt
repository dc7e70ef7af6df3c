-- A path that is gone by after some looks repeats nothing, so that what is shown of it tells it. Assumes nothing.
use Rattle.std.proofs.Common.{◌≡◌, ℕ, zero, suc, ◌<◌, ◌≤◌, true, false, ◌∷◌, length, Some, None, nat_lt, sym, refl, ap, ◌∙◌, subst, ⊎_elim, arith}
use Rattle.std.proofs.lemmas.Bool.{and_from, both_ways, cases_Bool, cond-false, cond-true, lt-ltb, or_from}
use Rattle.model.specs.Ports.{Port}
use Rattle.model.specs.Selection.{Choice, Said, nothing, local, via}
use Rattle.model.specs.Paths.{Path, passes, below, repeats}
use Rattle.model.specs.declared.limits.TheConstants.{MOST_NETWORKS}
use Rattle.model.proofs.Chosen.{at_home, own_home}
use Rattle.model.specs.ExportLaws.{FrontOf}
use Rattle.model.specs.Export.{longer, tells, told}
use Rattle.model.proofs.Told.{begins_with_teller_lem}
use Rattle.model.specs.World.{World}
use Rattle.model.specs.Stable.{Links, looks}
use Rattle.convergence.proofs.Goodness.{chosen_is}
use Rattle.convergence.proofs.Pigeons.{pigeons}
use Rattle.stable.specs.Looking.{shown}
use Rattle.stable.specs.Settling.{behind, gone_by}
use Rattle.stable.proofs.Looks.{Begins, begins, if_told}

module _ (w : World) (links : Links) (b : ℕ) where
  -- a path of networks that there are, without the network itself, and none twice
  abbrev Simple : ℕ → Choice → Type 0
  Simple i nothing = Unit {0}
  Simple i local = Unit {0}
  Simple i (via j p) = (below w.n p.networks ≡ true) × (repeats p.networks ≡ false) × (passes i p.networks ≡ false)

  simple_if : (i : ℕ) (c : Choice) → ((j : ℕ) (p : Path) → c ≡ via j p → (below w.n p.networks ≡ true) × (repeats p.networks ≡ false) × (passes i p.networks ≡ false)) → Simple i c
  simple_if i nothing h = tt
  simple_if i local h = tt
  simple_if i (via j p) h = h j p refl

  fronted : (j : ℕ) (p : Path) (c : Choice) → j < w.n → Simple j c → FrontOf j p c → (below w.n p.networks ≡ true) × (repeats p.networks ≡ false)
  fronted j p nothing hj s f = absurd f
  fronted j p local hj s f = subst (λ q. (below w.n q.networks ≡ true) × (repeats q.networks ≡ false)) (sym f) (and_from (nat_lt j w.n) true (lt-ltb j w.n hj) refl, refl)
  fronted j p (via k q) hj s f = subst (λ q. (below w.n q.networks ≡ true) × (repeats q.networks ≡ false)) (sym f) (and_from (nat_lt j w.n) (below w.n q.networks) (lt-ltb j w.n hj) s.0, or_from (passes j q.networks) (repeats q.networks) s.2 s.1)

  simple : (k i : ℕ) → Simple i (looks k w links b i)
  simple zero i = tt
  simple (suc k) i =
      simple_if i (looks (suc k) w links b i)
      (λ j p e.
      let a = looks k w links b in
      let u = chosen_is w i (record { up = links i; received = λ b j. tells (w.rel j) (links j) j i (a j); advertised = λ b j. None }) b j p e in
      let f = fronted j p (a j) u.there (simple k j) (begins_with_teller_lem (w.rel j) j i (a j) p (if_told (links j i) (told (w.rel j) j i (a j)) p u.received)) in
      (f.0, f.1, u.elsewhere))

  -- what is shown of a path that repeats nothing has it behind the network itself
  read : (i : ℕ) (c : Choice) → i < w.n → w.n ≤ MOST_NETWORKS → (c ≡ local → ⊥) → Begins c → Simple i c → behind (shown i c) ≡ c
  read i nothing hi few away begun s = refl
  read i local hi few away begun s = absurd (away refl)
  read i (via j p) hi few away begun s =
      let short = pigeons w.n (i ∷ p.networks) (and_from (nat_lt i w.n) (below w.n p.networks) (lt-ltb i w.n hi) s.0) (or_from (passes i p.networks) (repeats p.networks) s.2 s.1) in
      ap behind (cond-true (nat_lt (length p.networks) MOST_NETWORKS) (Some (longer i p)) None (lt-ltb (length p.networks) MOST_NETWORKS (omega (arith, short)))) ∙
      subst (λ q. behind (Some (longer i q)) ≡ via j q) (sym begun.1) refl

  pub read_back : (k i : ℕ) → i < w.n → w.n ≤ MOST_NETWORKS → gone_by (w.is_home b i) (shown i (looks (suc k) w links b i)) ≡ looks (suc k) w links b i
  read_back k i hi few =
      let says : Port → Said = λ j. tells (w.rel j) (links j) j i (looks k w links b j) in
      ⊎_elim
      (λ t. cond-true (w.is_home b i) local _ t ∙ sym (at_home (w.order i) (w.rel i) (links i) i (w.is_home b i) says w.n t))
      (λ f. cond-false (w.is_home b i) local _ f ∙ read i (looks (suc k) w links b i) hi few (λ l. both_ways (w.is_home b i) f ((own_home (w.order i) (w.rel i) (links i) i (w.is_home b i) says w.n).0 l)) (begins w links b (suc k) i) (simple (suc k) i))
      (cases_Bool (w.is_home b i))
