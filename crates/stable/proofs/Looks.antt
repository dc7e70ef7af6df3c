-- What the networks view when they look at what the others show is what the definition's look gives. Assumes nothing.
use Rattle.std.proofs.Common.{◌≡◌, ℕ, zero, suc, ◌+◌, ◌<◌, ◌≤◌, Bool, true, false, cond, ◌&&◌, ◌||◌, eqb, List, [], ◌∷◌, length, Some, None, nat_lt, sym, refl, ap, ◌∙◌, subst, ⊎_elim, arith}
use Rattle.std.proofs.lemmas.Bool.{cases_eq, cases_lt, false≢true, lt-ltb}
use Rattle.std.proofs.lemmas.Bool.Decides.{nat_tests}
use Rattle.model.specs.declared.relation.Relation.{Relation}
use Rattle.model.specs.declared.relation.Relation.TheVariants.{Unrelated, Customer, Peer, Provider}
use Rattle.model.specs.Selection.{Choice, Said, nothing, local, via, choose, usable}
use Rattle.model.specs.Paths.{Path, path_over}
use Rattle.model.specs.declared.limits.TheConstants.{MOST_NETWORKS}
use Rattle.model.specs.Relations.{related}
use Rattle.model.specs.ExportLaws.{FrontOf}
use Rattle.model.specs.Export.{in_front, may_tell, own, tells, told}
use Rattle.model.proofs.Told.{begins_with_teller_lem}
use Rattle.model.specs.World.{World}
use Rattle.model.specs.Stable.{Links, looks}
use Rattle.convergence.proofs.Decided.{same_best}
use Rattle.convergence.proofs.Goodness.{chosen_is, never}
use Rattle.stable.specs.Looking.{Shows, Showing, shown, shows, shows_path, tellers, view}

-- a path that is gone by begins with the neighbour that told it
abbrev pub Begins : Choice → Type 0
Begins nothing = Unit {0}
Begins local = Unit {0}
Begins (via j p) = (q : List ℕ) × (p ≡ path_over (j ∷ q))

tested : (m : Bool) (i : ℕ) (o : Said) → cond m (usable i o) None ≡ usable i (cond m o None)
tested true i o = refl
tested false i o = refl

-- networks that are not related tell each other nothing
untold : (x : Relation) → may_tell x Unrelated ≡ false
untold Unrelated = refl
untold Customer = refl
untold Peer = refl
untold Provider = refl

is_unrelated : (x : Relation) → related x ≡ false → x ≡ Unrelated
is_unrelated Unrelated e = refl
is_unrelated Customer e = absurd (false≢true (sym e))
is_unrelated Peer e = absurd (false≢true (sym e))
is_unrelated Provider e = absurd (false≢true (sym e))

pub none_for_unrelated : (rel : ℕ → Relation) (k : ℕ) (o : Said) → related (rel k) ≡ false → shows rel k o ≡ false
none_for_unrelated rel k None e = refl
none_for_unrelated rel k (Some p) e = of_path p.networks
  where
    of_path : (xs : List ℕ) → shows_path rel k xs ≡ false
    of_path [] = refl
    of_path (me ∷ []) = e
    of_path (me ∷ next ∷ path) = ap (may_tell (rel next)) (is_unrelated (rel k) e) ∙ untold (rel next)

neither : (m : Bool) (i : ℕ) → None ≡ usable i (cond m None None)
neither true i = refl
neither false i = refl

-- what network j shows, and whether it tells network i, give i what j tells
module _ (rel : ℕ → Relation) (j i : ℕ) where
  path_shown : (f : ℕ) (q : List ℕ) (t : Bool) → cond (shows rel i (cond t (Some (path_over (j ∷ f ∷ q))) None)) (usable i (cond t (Some (path_over (j ∷ f ∷ q))) None)) None ≡ usable i (cond (may_tell (rel f) (rel i)) (cond t (Some (path_over (j ∷ f ∷ q))) None) None)
  path_shown f q true = tested (may_tell (rel f) (rel i)) i (Some (path_over (j ∷ f ∷ q)))
  path_shown f q false = neither (may_tell (rel f) (rel i)) i

  up_shown : (c : Choice) → Begins c → cond (shows rel i (shown j c)) (usable i (shown j c)) None ≡ usable i (told rel j i c)
  up_shown nothing b = refl
  up_shown local b = tested (related (rel i)) i (Some (own j))
  up_shown (via f p) b = subst (λ p. cond (shows rel i (in_front j p)) (usable i (in_front j p)) None ≡ usable i (cond (may_tell (rel f) (rel i)) (in_front j p) None)) (sym b.1) (path_shown f b.0 (nat_lt (length (f ∷ b.0)) MOST_NETWORKS))

  told_shown : (r l : Bool) (c : Choice) → Begins c → cond (r && (l && shows rel i (shown j c))) (usable i (shown j c)) None ≡ cond (r && l) (usable i (cond l (told rel j i c) None)) None
  told_shown false l c b = refl
  told_shown true false c b = refl
  told_shown true true c b = up_shown c b

front : (j : ℕ) (p : Path) (c : Choice) → FrontOf j p c → (q : List ℕ) × (p ≡ path_over (j ∷ q))
front j p nothing f = absurd f
front j p local f = ([], f)
front j p (via k q) f = (q.networks, f)

pub if_told : (t : Bool) (s : Said) (p : Path) → cond t s None ≡ Some p → s ≡ Some p
if_told true s p e = e
if_told false s p e = never p e

begins_if : (c : Choice) → ((j : ℕ) (p : Path) → c ≡ via j p → (q : List ℕ) × (p ≡ path_over (j ∷ q))) → Begins c
begins_if nothing h = tt
begins_if local h = tt
begins_if (via j p) h = h j p refl

module _ (w : World) (links : Links) (b : ℕ) where
  pub begins : (k i : ℕ) → Begins (looks k w links b i)
  begins zero i = tt
  begins (suc k) i =
      begins_if (looks (suc k) w links b i)
      (λ j p e.
      let a = looks k w links b in
      let u = chosen_is w i (record { up = links i; received = λ b j. tells (w.rel j) (links j) j i (a j); advertised = λ b j. None }) b j p e in
      front j p (a j) (begins_with_teller_lem (w.rel j) j i (a j) p (if_told (links j i) (told (w.rel j) j i (a j)) p u.received)))

  -- a set with the tellers in it stands in for the links
  pub viewed_by : (rows : Showing) (i : ℕ) (up : ℕ → Bool) → ((j : ℕ) → up j ≡ (nat_lt j w.n && tellers w links rows i j)) → choose (w.order i) (w.rel i) up i (w.is_home b i) rows w.n ≡ view w links b rows i
  viewed_by rows i up is =
      ap (cond (w.is_home b i) local)
      (same_best (w.order i) _ _ w.n
      (λ j hj. ap (λ t. cond (related (w.rel i j) && t) (usable i (rows j)) None) (is j ∙ ap (λ t. t && tellers w links rows i j) (lt-ltb j w.n hj))))

  -- after k looks what each network views is one look more
  pub viewed : (k : ℕ) (rows : Showing) → ((i j : ℕ) → links i j ≡ links j i) → Shows w links b k rows → (i : ℕ) → view w links b rows i ≡ looks (suc k) w links b i
  viewed k rows both h i =
      ap (cond (w.is_home b i) local)
      (same_best (w.order i) _ _ w.n
      (λ j hj.
      ap (λ s. cond (related (w.rel i j) && (links j i && shows (w.rel j) i s)) (usable i s) None) (h j hj) ∙
      told_shown (w.rel j) j i (related (w.rel i j)) (links j i) (looks k w links b j) (begins k j) ∙
      ap (λ l. cond (related (w.rel i j) && l) (usable i (cond (links j i) (told (w.rel j) j i (looks k w links b j)) None)) None) (both j i)))

  -- where one look more shows nothing new, no look ever does
  pub stays : (k : ℕ) (rows : Showing) → ((i j : ℕ) → links i j ≡ links j i) → Shows w links b k rows → ((i : ℕ) → i < w.n → shown i (view w links b rows i) ≡ rows i) → (m : ℕ) → k ≤ m → Shows w links b m rows
  stays k rows both h same zero l = let e : k ≡ 0 = omega arith in subst (λ n. Shows w links b n rows) e h
  stays k rows both h same (suc m) l =
      ⊎_elim
      (λ less. let e : k ≡ suc m = omega arith in subst (λ n. Shows w links b n rows) e h)
      (λ past i hi. sym (same i hi) ∙ ap (shown i) (viewed m rows both (stays k rows both h same m past) i))
      (cases_lt m k)

-- a set that holds those of the networks below n that pass a test, with one network more
module _ (f : ℕ → Bool) (n : ℕ) (old : ℕ → Bool) (so_far : (j : ℕ) → old j ≡ (nat_lt j n && f j)) where
  pub joined : (new : ℕ → Bool) → f n ≡ true → n < MOST_NETWORKS → ((j : ℕ) → new j ≡ (old j || (eqb j n && nat_lt n MOST_NETWORKS))) → (j : ℕ) → new j ≡ (nat_lt j (n + 1) && f j)
  joined new t l is j =
      let a = so_far j in
      let b = is j in
      ⊎_elim (λ e. let g : f j ≡ true = ap f e ∙ t in grind (arith, nat_tests, a, b, g)) (λ ne. grind (arith, nat_tests, a, b)) (cases_eq j n)

  pub passed : f n ≡ false → (j : ℕ) → old j ≡ (nat_lt j (n + 1) && f j)
  passed t j =
      let a = so_far j in
      ⊎_elim (λ e. let g : f j ≡ false = ap f e ∙ t in grind (arith, nat_tests, a, g)) (λ ne. grind (arith, nat_tests, a)) (cases_eq j n)
