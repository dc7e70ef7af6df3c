-- A network that takes the oldest item in flight keeps what every step keeps. Assumes nothing.
use Rattle.std.proofs.Common.{◌≡◌, ℕ, List, [], ◌∷◌, sym, refl, ap, ◌∙◌, subst}
use Rattle.std.specs.List.{AllByRecursion}
use Rattle.std.proofs.lemmas.Bool.{both_ways}
use Rattle.model.specs.World.{World}
use Rattle.model.specs.Selection.{Said}
use Rattle.model.specs.Local.{Local, at}
use Rattle.model.specs.Run.{Item, update, packet, State}
use Rattle.model.specs.Steps.{queued}
use Rattle.model.specs.Promise.{ProperItem}
use Rattle.model.specs.RouterLaws.{HoldsProper}
use Rattle.convergence.proofs.Newest.{newest}
use Rattle.convergence.proofs.Places.{at_cases, at_same, queued_cases}
use Rattle.convergence.proofs.Keeping.{Kept, flies_up}

-- one network takes the oldest item in flight from another
pub record Takes (i : ℕ) (x : Item) (l l' : Local) : Type 0 where
  pub up : (k : ℕ) → l'.up k ≡ l.up k
  pub advertised : (b k : ℕ) → l'.advertised b k ≡ l.advertised b k
  pub received : (b : ℕ) → l'.received b i ≡ newest b (x ∷ []) (l.received b i)
  pub others : (b k : ℕ) → (k ≡ i → ⊥) → l'.received b k ≡ l.received b k

abbrev pub delivered : ℕ → ℕ → Local → List Item → State → State
delivered i j l' rest s = record { locals = at j l' s.locals; flight = queued i j rest s.flight }

newest_first : (b : ℕ) (x : Item) (rest : List Item) (d : Said) → newest b rest (newest b (x ∷ []) d) ≡ newest b (x ∷ rest) d
newest_first b (update u) rest d = refl
newest_first b (packet p) rest d = refl

module _ (w : World) (s : State) (h : Kept w s) (i j : ℕ) (x : Item) (rest : List Item) (first : s.flight i j ≡ x ∷ rest) (l' : Local) (t : Takes i x (s.locals j) l') (held : HoldsProper w j l') where
  take_up : (a k : ℕ) → (at j l' s.locals a).up k ≡ (s.locals a).up k
  take_up a k = at_cases (λ l. l.up k ≡ (s.locals a).up k) j l' s.locals a (λ f. t.up k ∙ ap (λ y. (s.locals y).up k) (sym f)) (λ _. refl)

  take_advertised : (a b k : ℕ) → (at j l' s.locals a).advertised b k ≡ (s.locals a).advertised b k
  take_advertised a b k = at_cases (λ l. l.advertised b k ≡ (s.locals a).advertised b k) j l' s.locals a (λ f. t.advertised b k ∙ ap (λ y. (s.locals y).advertised b k) (sym f)) (λ _. refl)

  take_received : (b : ℕ) → (at j l' s.locals j).received b i ≡ newest b (x ∷ []) ((s.locals j).received b i)
  take_received b = ap (λ l. l.received b i) (at_same j l' s.locals) ∙ t.received b

  take_others : (a k b : ℕ) → (a ≡ i → k ≡ j → ⊥) → (at j l' s.locals k).received b a ≡ (s.locals k).received b a
  take_others a k b ne = at_cases (λ l. l.received b a ≡ (s.locals k).received b a) j l' s.locals k (λ f. t.others b a (λ g. ne g f) ∙ ap (λ y. (s.locals y).received b a) (sym f)) (λ _. refl)

  take_newest : (a k b : ℕ) → newest b (queued i j rest s.flight a k) ((at j l' s.locals k).received b a) ≡ (s.locals a).advertised b k
  take_newest a k b =
      queued_cases (λ xs. newest b xs ((at j l' s.locals k).received b a) ≡ (s.locals a).advertised b k) i j rest s.flight a k
      (λ e f. subst (λ y. newest b rest ((at j l' s.locals k).received b y) ≡ (s.locals y).advertised b k) (sym e) (subst (λ y. newest b rest ((at j l' s.locals y).received b i) ≡ (s.locals i).advertised b y) (sym f) arrived))
      (λ ne. ap (newest b (s.flight a k)) (take_others a k b ne) ∙ h.newest a k b)
    where
      arrived : newest b rest ((at j l' s.locals j).received b i) ≡ (s.locals i).advertised b j
      arrived =
          ap (newest b rest) (take_received b) ∙ newest_first b x rest ((s.locals j).received b i) ∙
          ap (λ xs. newest b xs ((s.locals j).received b i)) (sym first) ∙ h.newest i j b

  pub take_kept : Kept w (delivered i j l' rest s)
  take_kept =
      record {
        both = λ a k. take_up a k ∙ h.both a k ∙ sym (take_up k a);
        tied = λ a k e. h.tied a k (sym (take_up a k) ∙ e);
        idle = λ a k e.
            queued_cases (λ xs. xs ≡ []) i j rest s.flight a k
            (λ f g. absurd (both_ways ((s.locals a).up k) (sym (take_up a k) ∙ e) ((λ y. (s.locals (f y)).up (g y)) ∙ flies_up w s h i j x rest first)))
            (λ _. h.idle a k (sym (take_up a k) ∙ e));
        newest = λ a k b. take_newest a k b ∙ sym (take_advertised a b k);
        held = λ a. at_cases (HoldsProper w a) j l' s.locals a (λ f. subst (λ y. HoldsProper w y l') (sym f) held) (λ _. h.held a);
        flying = λ a k.
            queued_cases (AllByRecursion (ProperItem w k a)) i j rest s.flight a k
            (λ f g. subst (λ y. AllByRecursion (ProperItem w k y) rest) (sym f) (subst (λ y. AllByRecursion (ProperItem w y i) rest) (sym g) (subst (AllByRecursion (ProperItem w j i)) first (h.flying i j)).1))
            (λ _. h.flying a k);
      }
