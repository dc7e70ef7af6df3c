-- What a turn leaves, block by block. Assumes nothing.
use Rattle.std.proofs.Common.{◌≡◌, ℕ, ◌+◌, ◌<◌, Bool, true, cond, not, ◌&&◌, ltb, List, length, get_or, set, None, sym, refl, ap, ◌∙◌, ⊎_elim, arith}
use Rattle.std.proofs.lemmas.List.{get_or-set_same, get_or-set_other}
use Rattle.std.proofs.lemmas.Bool.{cases_eq, le-ltb, eq-eqb}
use Rattle.std.proofs.lemmas.Bool.Decides.{nat_tests}
use Rattle.model.specs.declared.relation.Relation.{Relation}
use Rattle.model.specs.declared.relation.Relation.TheVariants.{Unrelated, Customer, Peer, Provider}
use Rattle.model.specs.Relations.{related}
use Rattle.model.specs.Export.{same_saying}
use Rattle.selection.specs.Sets.{member}
use Rattle.selection.specs.declared.set.NetworkSet.{NetworkSet}
use Rattle.model.specs.World.{World}
use Rattle.model.specs.Local.{Local, at, retold, sends, tells_now}
use Rattle.model.specs.Hearing.{after_turning, every, forgotten, only, turning_fault, unless}
use Rattle.links.specs.Answers.{ToldAll}

-- the first m blocks
abbrev pub before : ℕ → ℕ → Bool
before m b = ltb b m

module _ (w : World) (i : ℕ) (s : Local) (m : ℕ) where
  pub export_more : retold w i (only m) (retold w i (before m) s) ≡ retold w i (before (m + 1)) s
  export_more = λ x. record { up = s.up; received = s.received; advertised = λ b k. step b k x }
    where
      step : (b k : ℕ) → (retold w i (only m) (retold w i (before m) s)).advertised b k ≡ (retold w i (before (m + 1)) s).advertised b k
      step b k = grind (arith, nat_tests)

  pub sends_then : (k : ℕ) → sends w i (only m) (retold w i (before m) s) m k ≡ sends w i every s m k
  sends_then k =
      let here = eq-eqb m m refl in
      let not_yet = le-ltb m m (omega arith) in
      (λ x. (here x && ltb m w.blocks && ltb k w.n && s.up k) && not (same_saying (tells_now w i s m k) (cond (not_yet x && ltb m w.blocks && ltb k w.n && s.up k) (tells_now w i s m k) (s.advertised m k))))

  pub told_more : (audiences : List NetworkSet) (a : NetworkSet) → m < length audiences → ToldAll w i s audiences m → ((k : ℕ) → member a k ≡ sends w i (only m) (retold w i (before m) s) m k) → ToldAll w i s (set audiences m a) (m + 1)
  told_more audiences a l h here b k d c =
      ⊎_elim
      (λ e. ap (λ x. member (get_or (set audiences m a) x d) k) e ∙ ap (λ x. member x k) (get_or-set_same audiences m a d l) ∙ here k ∙ sends_then k ∙ ap (λ x. sends w i every s x k) (sym e))
      (λ ne. ap (λ x. member x k) (get_or-set_other audiences m b a d ne) ∙ h b k d (omega arith))
      (cases_eq b m)

pub forgotten_is : (s t : Local) (j : ℕ) (b : Bool) → ((k : ℕ) → t.up k ≡ at j b s.up k) → ((c k : ℕ) → t.received c k ≡ at j None (s.received c) k) → ((c k : ℕ) → t.advertised c k ≡ at j None (s.advertised c) k) → t ≡ forgotten j b s
forgotten_is s t j b u r a = λ x. record { up = λ k. u k x; received = λ c k. r c k x; advertised = λ c k. a c k x }

pub turned_is : (w : World) (i j : ℕ) (b : Bool) (s : Local) → turning_fault w i j ≡ None → retold w i every (forgotten j b s) ≡ after_turning w i j b s
turned_is w i j b s none = ap (λ f. unless f s (retold w i every (forgotten j b s))) (sym none)

pub is_related : (r : Relation) → (r ≡ Unrelated → ⊥) → related r ≡ true
is_related Unrelated h = absurd (h refl)
is_related Customer h = refl
is_related Peer h = refl
is_related Provider h = refl
