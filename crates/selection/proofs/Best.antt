-- The best of the candidates, network by network. Assumes nothing.
use Rattle.std.proofs.Common.{◌≡◌, ℕ, ◌+◌, true, false, cond, List, Some, None, sym, refl, ap, ◌∙◌, add-one, arith, Bor}
use Rattle.std.proofs.lemmas.Bool.{cond-true, cond-false}
use Rattle.model.specs.Paths.{Path, path_over}
use Rattle.model.specs.Ports.{Port}
use Rattle.model.specs.Selection.{Said, via, Order, better, best}
use Rattle.selection.specs.Meaning.{meaning}
use Rattle.model.proofs.Best.{held}
use Rattle.selection.specs.declared.route.Route.{Route}
use Rattle.selection.specs.declared.route.Route.TheVariants.{Nothing, Local, Via}

module _ (first : Order) (says : Port → Said) (r : Route) (j : ℕ) (so_far : meaning r ≡ best first says j) where
  one_more : (o : Said) → o ≡ says j → better first (meaning r) j o ≡ best first says (j + 1)
  one_more o e = (λ i. better first (so_far i) j (e i)) ∙ sym (ap (best first says) (add-one j))

  pub stays_none : None ≡ says j → meaning r ≡ best first says (j + 1)
  stays_none e = one_more None e

  module _ (p : Path) (told : Some p ≡ says j) where
    pub first_one : ((k : ℕ) (q : Bor (List ℕ)) → r ≡ Via k q → ⊥) → via j p ≡ best first says (j + 1)
    first_one ne = sym (go r ne) ∙ one_more (Some p) told
      where
        go : (s : Route) → ((k : ℕ) (q : Bor (List ℕ)) → s ≡ Via k q → ⊥) → better first (meaning s) j (Some p) ≡ via j p
        go Nothing n = refl
        go Local n = refl
        go (Via k q) n = absurd (n k q refl)

    module _ (k : ℕ) (q : Bor (List ℕ)) (was : r ≡ Via k q) where
      abbrev old : Path
      old = path_over q.now

      at_via : cond (first j p k old) (via j p) (via k old) ≡ best first says (j + 1)
      at_via = sym (ap (λ s. better first (meaning s) j (Some p)) was) ∙ one_more (Some p) told

      pub better_one : first j p k old ≡ true → via j p ≡ best first says (j + 1)
      better_one e = sym (cond-true (first j p k old) (via j p) (via k old) e) ∙ at_via

      pub worse_one : first j p k old ≡ false → meaning r ≡ best first says (j + 1)
      worse_one e = ap meaning was ∙ sym (cond-false (first j p k old) (via j p) (via k old) e) ∙ at_via

      pub other : (k ≡ j → ⊥)
      other e = let h = held first says j k old (sym so_far ∙ ap meaning was) in omega arith
