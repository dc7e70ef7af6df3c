-- Paths, and what is asked of one before it is held. Assumes nothing.
use Rattle.std.specs.Prelude.{ℕ, Bool, true, false, ◌&&◌, ◌||◌, List, [], ◌∷◌, ◌==◌, nat_lt}
use Rattle.std.specs.List.{list_all}
use Rattle.model.specs.Relations.{Between, provider}
use Rattle.model.specs.declared.relation.Relation.{Relation}
use Rattle.model.specs.declared.relation.Relation.TheVariants.{Unrelated, Customer, Peer, Provider}

-- the networks passed, the next one first and the home of the block last; the villages say road
pub record Path : Type 0 where
  pub networks : List ℕ

-- the path over these networks
abbrev pub path_over : List ℕ → Path
path_over xs = record { networks = xs }

-- network i is one of these
abbrev pub passes : ℕ → List ℕ → Bool
passes i [] = false
passes i (x ∷ xs) = x == i || passes i xs

-- the first network is j
abbrev pub begins : ℕ → List ℕ → Bool
begins j [] = false
begins j (x ∷ xs) = x == j

-- the last network is a home
abbrev pub ends : (ℕ → Bool) → List ℕ → Bool
ends is_home [] = false
ends is_home (x ∷ []) = is_home x
ends is_home (x ∷ y ∷ ys) = ends is_home (y ∷ ys)

-- a network is named twice
abbrev pub repeats : List ℕ → Bool
repeats [] = false
repeats (x ∷ xs) = passes x xs || repeats xs

-- every network is below n
abbrev pub below : ℕ → List ℕ → Bool
below n xs = list_all (λ x. nat_lt x n) xs

-- the next step of a path: while it climbs, to any neighbour; then down to customers only
abbrev pub allowed : Bool → Relation → Bool
allowed true Unrelated = false
allowed true Customer = true
allowed true Peer = true
allowed true Provider = true
allowed false Unrelated = false
allowed false Customer = true
allowed false Peer = false
allowed false Provider = false

-- from i along these, of which the part before climbed or not
abbrev pub descends : Between → Bool → ℕ → List ℕ → Bool
descends rel climbing i [] = true
descends rel climbing i (j ∷ js) = allowed climbing (rel i j) && descends rel (climbing && provider (rel i j)) j js

-- from i one goes up to providers any number of times, then at most once over to a peer, then down to customers any
-- number of times; the villages say that the road is paid
abbrev pub valley_free : Between → ℕ → List ℕ → Bool
valley_free rel i xs = descends rel true i xs
