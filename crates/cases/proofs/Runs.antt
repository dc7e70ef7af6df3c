-- Runs of a few steps, and how it stands after them, computed. Assumes nothing.
use Rattle.std.proofs.Common.{◌≡◌, ℕ, ◌<◌, Bool, true, not, ◌&&◌, eqb, List, [], ◌∷◌, nat_lt, slice_index_or, refl, arith}
use Rattle.std.proofs.lemmas.Bool.Decides.{nat_tests}
use Rattle.model.specs.Selection.{nothing}
use Rattle.model.specs.Relations.{related}
use Rattle.model.specs.World.{World}
use Rattle.model.specs.Local.{choice}
use Rattle.model.specs.Packets.{Lookup}
use Rattle.model.specs.Run.{Item, Reach, State, links}
use Rattle.model.specs.Steps.{hears as hears_one, turns, move, change}
use Rattle.cases.specs.Settings.{Setting, up, world}
use Rattle.cases.specs.Plays.{Plays, Stage, Standing, Stands, Step, hear, hears, in_flight, played, stepped, turn}
use Rattle.cases.proofs.Lists.{same_below, same_below_both, values}

-- steps that there are
abbrev pub right : World → List Step → Bool
right w [] = true
right w (turn i j b ∷ later) = (nat_lt i w.n && (nat_lt j w.n && (not (eqb i j) && related (w.rel i j)))) && right w later
right w (hear i j ∷ later) = (nat_lt i w.n && nat_lt j w.n) && right w later

module _ (w : World) (at : Lookup) where
  heard : (s : State) (i j : ℕ) (items : List Item) → i < w.n → j < w.n → s.flight i j ≡ items → Reach w at s → Reach w at (hears w at i j items s)
  heard s i j [] hi hj e run = run
  heard s i j (x ∷ rest) hi hj e run = move run (hears_one s i j x rest hi hj e)

  pub reached : (steps : List Step) (s : State) → right w steps ≡ true → Reach w at s → Reach w at (played w at steps s)
  reached [] s e run = run
  reached (turn i j b ∷ later) s e run =
      let hi : i < w.n = grind (arith, nat_tests, e) in
      let hj : j < w.n = grind (arith, nat_tests, e) in
      let r : related (w.rel i j) ≡ true = grind (arith, nat_tests, e) in
      reached later (stepped w at (turn i j b) s) (grind (arith, nat_tests, e)) (change run (turns s i j b hi hj (λ same. grind (arith, nat_tests, e, same)) r))
  reached (hear i j ∷ later) s e run =
      let hi : i < w.n = grind (arith, nat_tests, e) in
      let hj : j < w.n = grind (arith, nat_tests, e) in
      reached later (stepped w at (hear i j) s) (grind (arith, nat_tests, e)) (heard s i j (s.flight i j) hi hj refl run)

-- the tables of a state are as told
abbrev pub Computed : Setting → Bool → State → Standing → Type 0
Computed s fine t x =
    (fine ≡ true) ×
    (values s.networks (λ i. values s.networks (links t i)) ≡ values s.networks (λ i. values s.networks (up (record s { down = x.down }) i))) ×
    (values s.networks (λ i. choice (world s) i (t.locals i) 0) ≡ values s.networks (λ i. slice_index_or x.choices i nothing)) ×
    (values s.networks (λ i. values s.networks (t.flight i)) ≡ values s.networks (λ i. values s.networks (in_flight x.flights i)))

-- what is to be computed of each stage: that there are such steps, and the tables of the state after them
abbrev pub Computes : Setting → Lookup → State → List Stage → Type 0
Computes s at t [] = Unit {0}
Computes s at t (stage ∷ later) = Computed s (right (world s) stage.steps) (played (world s) at stage.steps t) stage.then × Computes s at (played (world s) at stage.steps t) later

module _ (s : Setting) (at : Lookup) where
  stands : (t : State) (x : Standing) → Reach (world s) at t → Computed s true t x → Stands s at t x
  stands t x run c =
      record {
        reached = run;
        linked = same_below_both s.networks (links t) (up (record s { down = x.down })) c.1;
        chosen = same_below s.networks (λ i. choice (world s) i (t.locals i) 0) (λ i. slice_index_or x.choices i nothing) c.2;
        flying = same_below_both s.networks t.flight (in_flight x.flights) c.3;
      }

  -- it stands as told after each stage, if that is what is computed
  pub plays : (t : State) (stages : List Stage) → Reach (world s) at t → Computes s at t stages → Plays s at t stages
  plays t [] run c = tt
  plays t (stage ∷ later) run c =
      let u = played (world s) at stage.steps t in
      let reach : Reach (world s) at u = reached (world s) at stage.steps t c.0.0 run in
      (stands u stage.then reach (refl, c.0.1, c.0.2, c.0.3), plays u later reach c.1)
