use Rattle.std.proofs.Common.{rules}
use Rattle.std.proofs.Output.{has_written_append, has_written_of_eq}
use Rattle.text.proofs.Rows.{spelled_whole}
use Rattle.text.proofs.numbers.RowDisplay.fmt.Goals as goal

pub returns-clause-writes : goal.returns-clause-writes
returns-clause-writes g c =
    λ plain ok.
    let first = c.in_ok-write.ensures.writes plain ok in
    has_written_of_eq _ _ _ _ _ (spelled_whole _ _ _ c.loop-number.number-index c.loop-number-test.false (search rules)) (has_written_append _ _ _ _ _ _ first (c.loop-number.invariant first.plain))
