-- What holds of every selection. Assumes nothing.
use Rattle.std.specs.Prelude.{◌≡◌, ℕ, ◌<◌, ◌≤◌, Bool, true, false, ◌⊎◌, Some, None}
use Rattle.model.specs.Paths.{Path}
use Rattle.model.specs.Ports.{Port}
use Rattle.model.specs.Selection.{Choice, nothing, local, via, Order, Said, by_keys, rank, candidate, choose}
use Rattle.model.specs.World.{IsStrict, RankFirst}
use Rattle.model.specs.declared.relation.Relation.{Relation}
use Rattle.model.specs.declared.relation.Relation.TheVariants.{Customer}

-- what is said at each port
abbrev pub Sayings : Type 0
Sayings = Port → Said

-- in any order, a path that is chosen is the candidate of its port, which there is
abbrev pub Usable : Type 0
Usable =
    (first : Order) (rel : Port → Relation) (up : Port → Bool) (me : ℕ) (own : Bool) (says : Sayings) (n : ℕ) (j : Port)
    (p : Path) →
    choose first rel up me own says n ≡ via j p → (j < n) × (candidate rel up me says j ≡ Some p)

-- in a strict order no candidate is before the one that is chosen
abbrev pub NoneBefore : Type 0
NoneBefore =
    (first : Order) → IsStrict first →
    (rel : Port → Relation) (up : Port → Bool) (me : ℕ) (own : Bool) (says : Sayings) (n : ℕ) (j : Port) (p : Path) →
    choose first rel up me own says n ≡ via j p → (k : Port) (q : Path) → k < n → candidate rel up me says k ≡ Some q →
    first k q j p ≡ false

-- where nothing is chosen there is no candidate
abbrev pub NoneLeft : Type 0
NoneLeft =
    (first : Order) (rel : Port → Relation) (up : Port → Bool) (me : ℕ) (own : Bool) (says : Sayings) (n : ℕ) →
    choose first rel up me own says n ≡ nothing → (k : Port) → k < n → candidate rel up me says k ≡ None

-- only a home goes by its own, and it does
abbrev pub OwnHome : Type 0
OwnHome =
    (first : Order) (rel : Port → Relation) (up : Port → Bool) (me : ℕ) (own : Bool) (says : Sayings) (n : ℕ) →
    (choose first rel up me own says n ≡ local → own ≡ true) × (own ≡ true → choose first rel up me own says n ≡ local)

-- the order by keys is strict, and compares the kind first
abbrev pub Strict : Type 0
Strict = (rel : Port → Relation) → IsStrict (by_keys rel) × RankFirst rel (by_keys rel)

-- the choice is the only one: a candidate that none is before is what is chosen
abbrev pub Only : Type 0
Only =
    (first : Order) → IsStrict first →
    (rel : Port → Relation) (up : Port → Bool) (me : ℕ) (says : Sayings) (n : ℕ) (k : Port) (p : Path) →
    k < n → candidate rel up me says k ≡ Some p →
    ((j : Port) (q : Path) → j < n → candidate rel up me says j ≡ Some q → first j q k p ≡ false) →
    choose first rel up me false says n ≡ via k p

-- a choice that is no path by a neighbour of rank below t
abbrev pub NotBelow : ℕ → (Port → Relation) → Choice → Type 0
NotBelow t rel nothing = Unit {0}
NotBelow t rel local = Unit {0}
NotBelow t rel (via j p) = t ≤ rank (rel j)

-- one path by one neighbour of rank below t in both, or in neither a path by such a neighbour
abbrev pub Agreed : ℕ → (Port → Relation) → Choice → Choice → Type 0
Agreed t rel a b =
    ((j : Port) × (p : Path) × (rank (rel j) < t) × (a ≡ via j p) × (b ≡ via j p)) ⊎
    (NotBelow t rel a × NotBelow t rel b)

-- in any order that compares the kind first, what the neighbours of the ranks below t offer decides whether one of them
-- is chosen, and which
abbrev pub RankDecides : Type 0
RankDecides =
    (first : Order) (rel : Port → Relation) → RankFirst rel first →
    (t me : ℕ) (own : Bool) (n : ℕ) (up up' : Port → Bool) (says says' : Sayings) →
    ((j : Port) → j < n → rank (rel j) < t → candidate rel up me says j ≡ candidate rel up' me says' j) →
    Agreed t rel (choose first rel up me own says n) (choose first rel up' me own says' n)

-- a choice that is no customer's path
abbrev pub NoCustomer : (Port → Relation) → Choice → Type 0
NoCustomer rel nothing = Unit {0}
NoCustomer rel local = Unit {0}
NoCustomer rel (via j p) = rel j ≡ Customer → ⊥
