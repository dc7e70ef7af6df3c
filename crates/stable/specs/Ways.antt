-- Ways of links between networks, and sets of networks from which one leads to a home. Assumes nothing.
use Rattle.std.specs.Prelude.{◌≡◌, ℕ, ◌+◌, ◌<◌, ◌≤◌, Bool, true, false, cond, List, [], ◌∷◌}
use Rattle.model.specs.Stable.{Links}
use Rattle.model.specs.Measure.{sum}

-- of n networks: from i over some to j, each linked to the next by a link that is up
abbrev pub Leads : ℕ → Links → ℕ → List ℕ → ℕ → Type 0
Leads n links i [] j = i ≡ j
Leads n links i (x ∷ xs) j = (x < n) × (links i x ≡ true) × Leads n links x xs j

-- some way of links that are up leads from i to j
abbrev pub Way : ℕ → Links → ℕ → ℕ → Type 0
Way n links i j = (over : List ℕ) × Leads n links i over j

-- some way of links that are up leads from i to a home
abbrev pub WayHome : ℕ → Links → (ℕ → Bool) → ℕ → Type 0
WayHome n links is_home i = (home : ℕ) × (is_home home ≡ true) × Way n links i home

-- a link that is up leads from i to a network of a set
abbrev pub Linked : ℕ → Links → (ℕ → Bool) → ℕ → Type 0
Linked n links within i = (k : ℕ) × (k < n) × (within k ≡ true) × (links i k ≡ true)

-- from each network of a set some way leads to a home
abbrev pub Real : ℕ → Links → (ℕ → Bool) → (ℕ → Bool) → Type 0
Real n links is_home within = (i : ℕ) → i < n → within i ≡ true → WayHome n links is_home i

-- each network from which a link leads to a network of a set is in the set
abbrev pub Closed : ℕ → Links → (ℕ → Bool) → Type 0
Closed n links within = (i : ℕ) → i < n → Linked n links within i → within i ≡ true

-- what is in a set is in another too
abbrev pub Kept : (ℕ → Bool) → (ℕ → Bool) → Type 0
Kept before after = (k : ℕ) → before k ≡ true → after k ≡ true

-- how many of n networks are not in a set
abbrev pub outside : ℕ → (ℕ → Bool) → ℕ
outside n within = sum n (λ k. cond (within k) 0 1)

-- a set after those networks were added from which a link led to one in it
pub record Grown (n : ℕ) (links : Links) (is_home : ℕ → Bool) (before after : ℕ → Bool) (grown : Bool) : Type 0 where
  pub real : Real n links is_home before → Real n links is_home after
  pub kept : Kept before after
  pub fewer : outside n after + cond grown 1 0 ≤ outside n before
  pub closed : grown ≡ false → Closed n links after
