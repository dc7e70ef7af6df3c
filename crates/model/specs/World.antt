-- The networks, what they are to each other, how they select, and the homes of the blocks. Assumes nothing.
use Rattle.std.specs.Prelude.{◌≡◌, ℕ, ◌<◌, ◌≤◌, Bool, true, false, ◌⊎◌, List, ◌≢◌}
use Rattle.std.specs.List.{AllByRecursion}
use Rattle.model.specs.Paths.{Path}
use Rattle.model.specs.Ports.{Port, far}
use Rattle.model.specs.Relations.{Between, Cycle, opposite}
use Rattle.model.specs.Selection.{Order, rank}
use Rattle.model.specs.declared.limits.TheConstants.{MOST_NETWORKS}
use Rattle.model.specs.declared.relation.Relation.{Relation}

-- n networks; rel i j is what j is to i; order i is by which network i selects; is_home b i says whether the addresses
-- of block b are at home at network i
pub record World : Type 0 where
  pub n : ℕ
  pub rel : Between
  pub order : ℕ → Order
  pub blocks : ℕ
  pub is_home : ℕ → ℕ → Bool

-- what the network at the far end of port j is to network i
abbrev pub rel_at : World → ℕ → Port → Relation
rel_at w i j = w.rel i (far i j)

-- a strict weak order that tells the paths at any two ports apart
pub record IsStrict (first : Order) : Type 0 where
  pub irreflexive : (j : Port) (p : Path) → first j p j p ≡ false
  pub transitive : (i j k : Port) (o p q : Path) → first i o j p ≡ true → first j p k q ≡ true → first i o k q ≡ true
  pub weak : (i j k : Port) (o p q : Path) → first i o k q ≡ true → (first i o j p ≡ true) ⊎ (first j p k q ≡ true)
  pub apart : (j k : Port) (p q : Path) → (j ≢ k) → (first j p k q ≡ true) ⊎ (first k q j p ≡ true)

-- the kind of the neighbour is compared first
abbrev pub RankFirst : (Port → Relation) → Order → Type 0
RankFirst rel first =
    (j k : Port) (p q : Path) → rank (rel j) < rank (rel k) → (first j p k q ≡ true) × (first k q j p ≡ false)

-- sound ties, among networks below n and nowhere else: both ends say the same, and there is no cycle of customers; and
-- each network compares first by kind, and then by a strict weak order
pub record Sound (w : World) : Type 0 where
  pub few : w.n ≤ MOST_NETWORKS
  pub both : (i j : ℕ) → i < w.n → j < w.n → w.rel j i ≡ opposite (w.rel i j)
  pub acyclic : (ring : List ℕ) → AllByRecursion (λ i. i < w.n) ring → Cycle w.rel ring → ⊥
  pub ranked : (i : ℕ) → i < w.n → RankFirst (rel_at w i) (w.order i)
  pub strict : (i : ℕ) → i < w.n → IsStrict (w.order i)
