-- Where what a network sees has not changed, it shows what it showed. Assumes nothing.
use Rattle.std.proofs.Common.{◌≡◌, ℕ, ◌+◌, ◌<◌, Bool, true, false, cond, ◌&&◌, ◌||◌, eqb, nat_lt, None, refl, sym, ap, ◌∙◌, ⊎_elim, arith}
use Rattle.std.proofs.lemmas.Bool.{and_parts, cases_eq, false≢true}
use Rattle.std.proofs.lemmas.Bool.Decides.{nat_tests}
use Rattle.model.specs.declared.limits.TheConstants.{MOST_NETWORKS}
use Rattle.model.specs.Selection.{Said, usable, local}
use Rattle.model.specs.Relations.{related}
use Rattle.model.specs.World.{World}
use Rattle.model.specs.Stable.{Links}
use Rattle.convergence.proofs.Decided.{same_best}
use Rattle.stable.specs.Looking.{Same, SameOutside, Showing, UpToDate, Unaffected, shown, shows, view}

same_seen : (r c l : Bool) (i : ℕ) (o p : Said) (t : Said → Bool) → (c && r) ≡ false → (c ≡ false → o ≡ p) → cond (r && (l && t o)) (usable i o) None ≡ cond (r && (l && t p)) (usable i p) None
same_seen false c l i o p t e h = refl
same_seen true false l i o p t e h = ap (λ x. cond (l && t x) (usable i x) None) (h refl)
same_seen true true l i o p t e h = ap (λ x. cond (l && t x) (usable i x) None) (h e)

module _ (w : World) (links : Links) (b : ℕ) (changed : ℕ → Bool) (rows next : Showing) (same : (j : ℕ) → j < w.n → changed j ≡ false → rows j ≡ next j) where
  same_view : (i : ℕ) → Unaffected w changed i → view w links b rows i ≡ view w links b next i
  same_view i u =
      ap (cond (w.is_home b i) local)
      (same_best (w.order i) _ _ w.n
      (λ j hj. same_seen (related (w.rel i j)) (changed j) (links j i) i (rows j) (next j) (shows (w.rel j) i) (u.1 j hj) (same j hj)))

  pub up_to_date_next : (within : ℕ → Bool) → ((i : ℕ) → i < w.n → within i ≡ false → Unaffected w changed i) → ((j : ℕ) → j < w.n → next j ≡ shown j (view w links b rows j)) → UpToDate w links b within next
  up_to_date_next within out after i hi f = after i hi ∙ ap (shown i) (same_view i (out i hi f))

not_true : (b : Bool) → (b ≡ true → ⊥) → b ≡ false
not_true true h = absurd (h refl)
not_true false h = refl

-- a set with all of another and all that are related to one of it
pub from_related : (w : World) (changed set : ℕ → Bool) → ((k : ℕ) → changed k ≡ true → set k ≡ true) → ((j k : ℕ) → j < w.n → k < w.n → changed j ≡ true → related (w.rel k j) ≡ true → set k ≡ true) → (i : ℕ) → i < w.n → set i ≡ false → Unaffected w changed i
from_related w changed set kept added i hi f = (
  not_true (changed i) (λ t. false≢true (sym f ∙ kept i t)),
  λ j hj. not_true (changed j && related (w.rel i j)) (λ t. let p = and_parts (changed j) (related (w.rel i j)) t in false≢true (sym f ∙ added j i hj hi p.0 p.1)),
)

-- with one network more: it is in the set, or shows the same
module _ (rows next : Showing) (n : ℕ) where
  pub same_more_but : (old new : ℕ → Bool) → SameOutside n old rows next → n < MOST_NETWORKS → ((j : ℕ) → new j ≡ (old j || (eqb j n && nat_lt n MOST_NETWORKS))) → SameOutside (n + 1) new rows next
  same_more_but old new h under is j hj out =
      let i = is j in
      ⊎_elim
      (λ e. absurd (false≢true (sym out ∙ (let t : new j ≡ true = grind (arith, nat_tests, i, e) in t))))
      (λ ne. h j (omega arith) (let t : old j ≡ false = grind (arith, nat_tests, i, out) in t))
      (cases_eq j n)

  pub same_more_outside : (old new : ℕ → Bool) → SameOutside n old rows next → ((j : ℕ) → new j ≡ old j) → rows n ≡ next n → SameOutside (n + 1) new rows next
  same_more_outside old new h is here j hj out =
      ⊎_elim (λ e. ap rows e ∙ here ∙ ap next (sym e)) (λ ne. h j (omega arith) (sym (is j) ∙ out)) (cases_eq j n)

  pub same_more : Same n rows next → rows n ≡ next n → Same (n + 1) rows next
  same_more h here j hj = ⊎_elim (λ e. ap rows e ∙ here ∙ ap next (sym e)) (λ ne. h j (omega arith)) (cases_eq j n)
