-- Selecting: which of the paths that its neighbours told a network goes by. Assumes nothing.
use Rattle.std.specs.Prelude.{ℕ, zero, suc, Bool, false, cond, ◌&&◌, ◌||◌, List, [], ◌∷◌, length, Some, None, Option}
use Rattle.std.specs.Prelude.{◌==◌, nat_lt}
use Rattle.model.specs.Paths.{Path, passes}
use Rattle.model.specs.Ports.{Port}
use Rattle.model.specs.Relations.{related}
use Rattle.model.specs.declared.relation.Relation.{Relation}
use Rattle.model.specs.declared.relation.Relation.TheVariants.{Unrelated, Customer, Peer, Provider}

-- what is said of a block: a path, or nothing
abbrev pub Said : Type 0
Said = Option Path

-- what a network goes by: nothing, its own home, or the path that came in at a port
pub data Choice : Type 0 where
  nothing : Choice
  local : Choice
  via : Port → Path → Choice

-- customers before peers before providers
abbrev pub rank : Relation → ℕ
rank Unrelated = 3
rank Customer = 0
rank Peer = 1
rank Provider = 2

-- is the path p at port j before the path q at port k
abbrev pub Order : Type 0
Order = Port → Path → Port → Path → Bool

-- the first difference decides
abbrev pub precedes : List ℕ → List ℕ → Bool
precedes [] ys = false
precedes (x ∷ xs) [] = false
precedes (x ∷ xs) (y ∷ ys) = nat_lt x y || (x == y && precedes xs ys)

-- what paths are compared by, in turn: the rank, the length, the port
abbrev pub keys : (Port → Relation) → Port → Path → List ℕ
keys rel j p = rank (rel j) ∷ length p.networks ∷ j ∷ []

-- customers before peers before providers, then the shorter path, then the lower port
abbrev pub by_keys : (Port → Relation) → Order
by_keys rel j p k q = precedes (keys rel j p) (keys rel k q)

-- what was told, unless the path passes the network itself
abbrev pub usable : ℕ → Said → Said
usable me None = None
usable me (Some p) = cond (passes me p.networks) None (Some p)

-- the path at port j that a network may go by: the neighbour is related, its link is up, and the path does not pass the
-- network
abbrev pub candidate : (Port → Relation) → (Port → Bool) → ℕ → (Port → Said) → Port → Said
candidate rel up me says j = cond (related (rel j) && up j) (usable me (says j)) None

-- what was best so far, or the candidate of port j where that is before it
abbrev pub better : Order → Choice → Port → Said → Choice
better first best j None = best
better first nothing j (Some p) = via j p
better first local j (Some p) = via j p
better first (via k q) j (Some p) = cond (first j p k q) (via j p) (via k q)

-- the best of the candidates of ports 0 to k - 1
abbrev pub best : Order → (Port → Said) → ℕ → Choice
best first says zero = nothing
best first says (suc k) = better first (best first says k) k (says k)

-- with n ports: where the block is its own a network goes by that, elsewhere by its best candidate
abbrev pub choose : Order → (Port → Relation) → (Port → Bool) → ℕ → Bool → (Port → Said) → ℕ → Choice
choose first rel up me own says n = cond own local (best first (candidate rel up me says) n)
