-- What every step keeps: links are the same at both ends, nothing is in flight over one that is down, what is in flight ends
-- at what was advertised, and all paths are proper. Assumes nothing.
use Rattle.std.proofs.Common.{◌≡◌, ℕ, ◌<◌, true, false, List, [], ◌∷◌, sym, refl, subst, ⊎_elim, arith}
use Rattle.std.specs.List.{AllByRecursion}
use Rattle.std.proofs.lemmas.Bool.{cases_Bool}
use Rattle.model.specs.Relations.{related, opposite}
use Rattle.model.specs.declared.relation.Relation.{Relation}
use Rattle.model.specs.declared.relation.Relation.TheVariants.{Unrelated, Customer, Peer, Provider}
use Rattle.model.specs.World.{World, Sound}
use Rattle.model.specs.Run.{Item, State}
use Rattle.model.specs.Promise.{ProperItem}
use Rattle.model.specs.RouterLaws.{HoldsProper}
use Rattle.convergence.proofs.Newest.{newest}

-- two different networks below n that are related
pub record Tied (w : World) (i k : ℕ) : Type 0 where
  pub here : i < w.n
  pub there : k < w.n
  pub apart : i ≡ k → ⊥
  pub related : related (w.rel i k) ≡ true

pub record Kept (w : World) (s : State) : Type 0 where
  pub both : (i k : ℕ) → (s.locals i).up k ≡ (s.locals k).up i
  pub tied : (i k : ℕ) → (s.locals i).up k ≡ true → Tied w i k
  pub idle : (i k : ℕ) → (s.locals i).up k ≡ false → s.flight i k ≡ []
  pub newest : (i k b : ℕ) → newest b (s.flight i k) ((s.locals k).received b i) ≡ (s.locals i).advertised b k
  pub held : (i : ℕ) → HoldsProper w i (s.locals i)
  pub flying : (i k : ℕ) → AllByRecursion (ProperItem w k i) (s.flight i k)

-- where something is in flight the link is up
nothing_there : {X : Type 0} (xs : List Item) (x : Item) (rest : List Item) → xs ≡ [] → xs ≡ x ∷ rest → X
nothing_there xs x rest e f = absurd (let z : ◌≡◌ {A = ℕ} 0 1 = cc in omega arith)

pub flies_up : (w : World) (s : State) → Kept w s → (i j : ℕ) (x : Item) (rest : List Item) → s.flight i j ≡ x ∷ rest → (s.locals i).up j ≡ true
flies_up w s h i j x rest e = ⊎_elim (λ t. t) (λ f. nothing_there (s.flight i j) x rest (h.idle i j f) e) (cases_Bool ((s.locals i).up j))

related_back : (r : Relation) → related r ≡ true → related (opposite r) ≡ true
related_back Unrelated e = e
related_back Customer e = refl
related_back Peer e = refl
related_back Provider e = refl

pub tied_back : (w : World) → Sound w → (i j : ℕ) → Tied w i j → Tied w j i
tied_back w sound i j t =
    record {
      here = t.there;
      there = t.here;
      apart = λ e. t.apart (sym e);
      related = subst (λ r. related r ≡ true) (sym (sound.both i j t.here t.there)) (related_back (w.rel i j) t.related);
    }
