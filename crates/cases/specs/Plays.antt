-- Runs of a few steps, and how it stands after them. Assumes nothing.
use Rattle.std.specs.Prelude.{◌≡◌, ℕ, ◌<◌, Bool, cond, ◌&&◌, List, [], ◌∷◌, map, ◌==◌, slice_index_or}
use Rattle.model.specs.Selection.{Choice, nothing, Said}
use Rattle.model.specs.World.{World}
use Rattle.model.specs.Local.{choice}
use Rattle.model.specs.Packets.{Lookup}
use Rattle.model.specs.Run.{Item, update, State, links, Reach, taken, turned}
use Rattle.cases.specs.Settings.{Setting, up, world}

-- the link of two networks turns, or the second hears the oldest that is in flight from the first
pub data Step : Type 0 where
  turn : ℕ → ℕ → Bool → Step
  hear : ℕ → ℕ → Step

-- network j hears the first of these, which are in flight from i; where there is none, nothing happens
abbrev pub hears : World → Lookup → ℕ → ℕ → List Item → State → State
hears w at i j [] s = s
hears w at i j (x ∷ rest) s = taken w at i j x rest s

abbrev pub stepped : World → Lookup → Step → State → State
stepped w at (turn i j b) s = turned w at i j b s
stepped w at (hear i j) s = hears w at i j (s.flight i j) s

-- one step after the other
abbrev pub played : World → Lookup → List Step → State → State
played w at [] s = s
played w at (step ∷ later) s = played w at later (stepped w at step s)

-- what is in flight from one network to another, the oldest first
pub record Flight : Type 0 where
  pub from : ℕ
  pub to : ℕ
  pub says : List Said

-- how it stands: which links are down, what each network goes by, and what is in flight; elsewhere nothing is
pub record Standing : Type 0 where
  pub down : List (ℕ × ℕ)
  pub choices : List Choice
  pub flights : List Flight

-- updates of the only block
abbrev pub updates : List Said → List Item
updates says = map (λ s. update (record { block = 0; says = s })) says

abbrev pub in_flight : List Flight → ℕ → ℕ → List Item
in_flight [] i j = []
in_flight (f ∷ fs) i j = cond (f.from == i && f.to == j) (updates f.says) (in_flight fs i j)

-- a state of a run, in which it stands so
pub record Stands (s : Setting) (at : Lookup) (t : State) (x : Standing) : Type 0 where
  pub reached : Reach (world s) at t
  pub linked : (i j : ℕ) → i < s.networks → j < s.networks → links t i j ≡ up (record s { down = x.down }) i j
  pub chosen : (i : ℕ) → i < s.networks → choice (world s) i (t.locals i) 0 ≡ slice_index_or x.choices i nothing
  pub flying : (i j : ℕ) → i < s.networks → j < s.networks → t.flight i j ≡ in_flight x.flights i j

-- some steps, and how it then stands
pub record Stage : Type 0 where
  pub steps : List Step
  pub then : Standing

-- it stands as told after each stage
abbrev pub Plays : Setting → Lookup → State → List Stage → Type 0
Plays s at t [] = Unit {0}
Plays s at t (stage ∷ later) =
    Stands s at (played (world s) at stage.steps t) stage.then × Plays s at (played (world s) at stage.steps t) later
