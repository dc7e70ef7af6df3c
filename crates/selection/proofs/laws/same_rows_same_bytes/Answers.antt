-- Rows that say the same are the same bytes.
use Rattle.selection.proofs.Bytes.{same_bytes}
use Rattle.selection.proofs.laws.same_rows_same_bytes.Goals as goal

pub returns : goal.returns
returns c = same_bytes
