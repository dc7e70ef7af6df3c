-- In the blocks so far the rows of the neighbour say nothing.
use Rattle.std.proofs.Common.{◌≡◌, ℕ, cond, ◌&&◌, ◌==◌, nat_lt, None}
use Rattle.selection.specs.Paths.{count, row}
use Rattle.selection.proofs.table.PathTable.forget.Given as goal

abbrev pub invariant-loop-block : goal.invariant-loop-block
invariant-loop-block l =
    (count l.self ≡ count l.initial.self) ×
    ((b j : ℕ) → row l.self b j ≡ cond (nat_lt b l.block && j == l.neighbour) None (row l.initial.self b j))
