-- Lists one after the other. Assumes nothing.
use Rattle.std.specs.Prelude.{ℕ, zero, suc, List, [], ◌++◌}

-- one list after the other: f 0 ++ .. ++ f (k - 1)
abbrev pub gather : {X : Type 0} → (ℕ → List X) → ℕ → List X
gather f zero = []
gather f (suc k) = gather f k ++ f k
