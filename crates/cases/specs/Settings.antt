-- A few networks: their ties, the links that are down, and a home. Assumes nothing.
use Rattle.std.specs.Prelude.{ℕ, Bool, false, cond, not, ◌&&◌, ◌||◌, List, [], ◌∷◌, ◌==◌}
use Rattle.model.specs.Relations.{Between, related}
use Rattle.model.specs.Selection.{by_keys}
use Rattle.model.specs.Stable.{Links}
use Rattle.model.specs.World.{World}
use Rattle.model.specs.declared.relation.Relation.TheVariants.{Unrelated, Customer, Peer, Provider}

-- two networks that are tied: the first is the second's customer, or they are peers
pub data Tie : Type 0 where
  customer_of : ℕ → ℕ → Tie
  peers : ℕ → ℕ → Tie

-- how many networks, their ties, the links that are down, and the home of the only block
pub record Setting : Type 0 where
  pub networks : ℕ
  pub ties : List Tie
  pub down : List (ℕ × ℕ)
  pub home : ℕ

-- what networks are to each other by these ties, as both ends say
abbrev pub tied : List Tie → Between
tied [] i j = Unrelated
tied (customer_of a b ∷ ties) i j =
    cond (i == a && j == b) Provider (cond (i == b && j == a) Customer (tied ties i j))
tied (peers a b ∷ ties) i j = cond (i == a && j == b) Peer (cond (i == b && j == a) Peer (tied ties i j))

abbrev pub world : Setting → World
world s = record {
  n = s.networks;
  rel = tied s.ties;
  order = λ i. by_keys (tied s.ties i);
  blocks = 1;
  is_home = λ b i. i == s.home;
}

-- the link of i and j is one of these
abbrev pub among : List (ℕ × ℕ) → ℕ → ℕ → Bool
among [] i j = false
among (link ∷ links) i j = (link.0 == i && link.1 == j) || (link.0 == j && link.1 == i) || among links i j

-- every link is up but those that are down
abbrev pub up : Setting → Links
up s i j = related (tied s.ties i j) && not (among s.down i j)
