-- What networks are to each other, when both ends say the same, and what a cycle of customers is. Assumes nothing.
use Rattle.std.specs.Prelude.{◌≡◌, ℕ, ◌≤◌, Bool, true, false, List, [], ◌∷◌}
use Rattle.model.specs.declared.relation.Relation.{Relation}
use Rattle.model.specs.declared.relation.Relation.TheVariants.{Unrelated, Customer, Peer, Provider}

abbrev pub opposite : Relation → Relation
opposite Unrelated = Unrelated
opposite Customer = Provider
opposite Peer = Peer
opposite Provider = Customer

abbrev pub related : Relation → Bool
related Unrelated = false
related Customer = true
related Peer = true
related Provider = true

abbrev pub provider : Relation → Bool
provider Unrelated = false
provider Customer = false
provider Peer = false
provider Provider = true

-- rel i j is what network j is to network i
abbrev pub Between : Type 0
Between = ℕ → ℕ → Relation

-- both ends say the same
abbrev pub Mutual : Between → Type 0
Mutual rel = (i j : ℕ) → rel j i ≡ opposite (rel i j)

-- no network is related to itself
abbrev pub Apart : Between → Type 0
Apart rel = (i : ℕ) → rel i i ≡ Unrelated

-- only networks below n are related
abbrev pub Within : ℕ → Between → Type 0
Within n rel = (i j : ℕ) → n ≤ i → rel i j ≡ Unrelated

-- from i up over xs to j: each is a customer of the next
abbrev pub Chain : Between → ℕ → List ℕ → ℕ → Type 0
Chain rel i [] j = rel i j ≡ Provider
Chain rel i (x ∷ xs) j = (rel i x ≡ Provider) × Chain rel x xs j

-- a list of networks in which each is a customer of the next and the last of the first; the villages call it a ring of
-- customers
abbrev pub Cycle : Between → List ℕ → Type 0
Cycle rel [] = ⊥
Cycle rel (x ∷ xs) = Chain rel x xs x
