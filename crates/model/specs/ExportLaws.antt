-- What holds of everything that is told. Assumes nothing.
use Rattle.std.specs.Prelude.{◌≡◌, ℕ, ◌<◌, true, length, Some, None, Decides, ◌≢◌}
use Rattle.model.specs.Export.{longer, own, same_saying, told}
use Rattle.model.specs.Paths.{Path}
use Rattle.model.specs.Ports.{Port}
use Rattle.model.specs.Relations.{related}
use Rattle.model.specs.Selection.{Choice, nothing, local, via, Said}
use Rattle.model.specs.declared.limits.TheConstants.{MOST_NETWORKS}
use Rattle.model.specs.declared.relation.Relation.{Relation}
use Rattle.model.specs.declared.relation.Relation.TheVariants.{Customer}

-- what no customer told is told to no other than a customer: no network carries between two that do not pay it
abbrev pub NoFreeRide : Type 0
NoFreeRide =
    (rel : Port → Relation) (me : ℕ) (j k : Port) (p : Path) → (rel j ≢ Customer) → (rel k ≢ Customer) →
    told rel me k (via j p) ≡ None

-- a path that is what is gone by, with the network itself in front
abbrev pub FrontOf : ℕ → Path → Choice → Type 0
FrontOf me q nothing = ⊥
FrontOf me q local = q ≡ own me
FrontOf me q (via j p) = q ≡ longer me p

-- what is told begins with the teller, and goes on as the teller goes
abbrev pub BeginsWithTeller : Type 0
BeginsWithTeller =
    (rel : Port → Relation) (me : ℕ) (k : Port) (c : Choice) (q : Path) → told rel me k c ≡ Some q → FrontOf me q c

-- a customer is told its provider's own home, and each path of fewer networks than there may be that a related
-- neighbour told
pub record AllToCustomers : Type 0 where
  pub own : (rel : Port → Relation) (me : ℕ) (k : Port) → rel k ≡ Customer → told rel me k local ≡ Some (own me)
  pub other : (rel : Port → Relation) (me : ℕ) (j k : Port) (p : Path) → rel k ≡ Customer → related (rel j) ≡ true →
      length p.networks < MOST_NETWORKS → told rel me k (via j p) ≡ Some (longer me p)

-- the test of two sayings decides whether they are the same
abbrev pub SameSaying : Type 0
SameSaying = (a b : Said) → Decides (same_saying a b) (a ≡ b)
