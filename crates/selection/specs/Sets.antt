-- Which networks are in a set. Assumes nothing.
use Rattle.std.specs.Prelude.{ℕ, Bool, false, slice_index_or}
use Rattle.selection.specs.declared.set.NetworkSet.{NetworkSet}

abbrev pub member : NetworkSet → ℕ → Bool
member s k = slice_index_or s.marks k false
