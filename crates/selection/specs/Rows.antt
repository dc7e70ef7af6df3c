-- Rows of paths: what one says, and all of them, by block and neighbour. Assumes nothing.
use Rattle.std.specs.Prelude.{◌≡◌, ℕ, ◌<◌, ◌≤◌, cond, ◌&&◌, List, [], length, take, Some, None, ◌==◌, slice_index}
use Rattle.std.specs.Prelude.{slice_index_or}
use Rattle.model.specs.Paths.{path_over}
use Rattle.model.specs.Ports.{Port}
use Rattle.model.specs.Selection.{Said}
use Rattle.model.specs.declared.limits.TheConstants.{MOST_NETWORKS}

-- each block has a row for each network that there may be
abbrev pub Wide : {X : Type 0} → List (List X) → Type 0
Wide blocks = (b : ℕ) → b < length blocks → length (slice_index_or blocks b []) ≡ MOST_NETWORKS

-- a row has as many places
abbrev pub Full : List ℕ → Type 0
Full networks = length networks ≡ MOST_NETWORKS

-- a row is zero past its path
abbrev pub Padded : ℕ → List ℕ → Type 0
Padded size networks = (k : ℕ) → size ≤ k → slice_index networks k ≡ 0

-- the path that a row says: the first of its networks, or none
abbrev pub told : ℕ → List ℕ → Said
told size networks = cond (size == 0) None (Some (path_over (take size networks)))

-- what each row says, by block and neighbour
abbrev pub Rows : Type 0
Rows = ℕ → Port → Said

abbrev pub none : Rows
none block neighbour = None

-- what a row says that holds this path: of no network, that nothing was told
abbrev pub said : List ℕ → Said
said path = cond (length path == 0) None (Some (path_over path))

-- as before, but for one row
abbrev pub with_row : Rows → ℕ → Port → Said → Rows
with_row before block neighbour says b j = cond (b == block && j == neighbour) says (before b j)

-- as before, but for all rows of one neighbour, which say nothing
abbrev pub without : Rows → Port → Rows
without before neighbour b j = cond (j == neighbour) None (before b j)
