-- What a move takes from what is left in flight, and what it adds. Assumes nothing.
use Rattle.std.proofs.Common.{◌≡◌, ℕ, zero, suc, ◌+◌, ◌<◌, Bool, true, false, cond, ◌&&◌, ltb, List, [], ◌∷◌, sum_by, refl, ap, ◌∙◌, ⊎_elim, arith}
use Rattle.std.proofs.lemmas.List.{map-append}
use Rattle.std.proofs.lemmas.List.Sums.{sum_by-append}
use Rattle.std.proofs.lemmas.Bool.{cases_Bool, cases_eq}
use Rattle.std.proofs.lemmas.Bool.Decides.{nat_tests}
use Rattle.model.specs.World.{World}
use Rattle.model.specs.Selection.{Said}
use Rattle.model.specs.Local.{Update}
use Rattle.model.specs.Lists.{gather}
use Rattle.model.specs.Run.{Item, update, State, updates}
use Rattle.model.specs.Steps.{appended, queued}
use Rattle.model.specs.Levels.{level}
use Rattle.model.specs.Measure.{left, sum, weight}
use Rattle.convergence.proofs.Flows.{flow, flow_appended, flow_queued}

abbrev pub weigh : World → (ℕ → ℕ) → ℕ → ℕ → List Item → ℕ
weigh w height i k xs = sum_by (weight w.n (level w height i k)) xs

-- network j takes the first item in flight from i, and sends more
pub left_then : (w : World) (height : ℕ → ℕ) (s : State) (i j : ℕ) (x : Item) (rest : List Item) → i < w.n → j < w.n → s.flight i j ≡ x ∷ rest → (more : ℕ → List Item) (t : State) → t.flight ≡ appended j more (queued i j rest s.flight) → left w height t + weight w.n (level w height i j) x ≡ left w height s + sum w.n (λ k. weigh w height j k (more k))
left_then w height s i j x rest hi hj first more t e =
    let heavy : ℕ → ℕ → Item → ℕ = λ a k. weight w.n (level w height a k) in
    let now : left w height t ≡ flow w.n heavy (appended j more (queued i j rest s.flight)) = ap (flow w.n heavy) e in
    let put = flow_appended w.n heavy j hj more (queued i j rest s.flight) in
    let off = flow_queued w.n heavy i j hi hj x rest s.flight first in
    omega (arith, now, put, off)

-- a list of at most one update, of block c
module _ (f : Item → ℕ) (v : ℕ) (weighs : (u : Update) → f (update u) ≡ v) (t : ℕ → Bool) (x : ℕ → Said) (c : ℕ) (only : (b : ℕ) → t b ≡ true → b ≡ c) where
  abbrev each : ℕ → List Update
  each b = cond (t b) (record { block = b; says = x b } ∷ []) []

  weigh_each : (b : ℕ) → sum_by f (updates (each b)) ≡ cond (t b) v 0
  weigh_each b = by (t b)
    where
      by : (z : Bool) → sum_by f (updates (cond z (record { block = b; says = x b } ∷ []) [])) ≡ cond z v 0
      by true = let g = weighs (record { block = b; says = x b }) in omega (arith, g)
      by false = refl

  pub weigh_gather : (m : ℕ) → sum_by f (updates (gather each m)) ≡ cond (ltb c m && t c) v 0
  weigh_gather zero = grind (arith, nat_tests)
  weigh_gather (suc m) =
      ap (sum_by f) (map-append update (gather each m) (each m)) ∙
      sum_by-append f (updates (gather each m)) (updates (each m)) ∙
      (λ y. weigh_gather m y + weigh_each m y) ∙
      ⊎_elim
      (λ e. let g = ap t e in grind (arith, nat_tests, g))
      (λ ne. let off : t m ≡ false = ⊎_elim (λ y. absurd (ne (only m y))) (λ y. y) (cases_Bool (t m)) in grind (arith, nat_tests, off))
      (cases_eq m c)
