-- What the check of a table tells. Assumes nothing.
use Rattle.std.specs.Prelude.{◌≡◌, Ok, Err, vec_items, Result}
use Rattle.model.specs.Cycles.{First}
use Rattle.relations.specs.Table.{rel}
use Rattle.relations.specs.declared.matrix.Matrix.{Matrix}
use Rattle.relations.specs.declared.sound.Relations.{Relations}
use Rattle.cycles.specs.declared.check.Unsound.{Unsound}
use Rattle.cycles.specs.declared.check.Unsound.TheVariants.{Cycle, Memory}

-- which cycle is told; that there was no memory says nothing of the table
abbrev pub Told : Matrix → Unsound → Type 0
Told m (Cycle ring) = First (rel m) (vec_items ring)
Told m Memory = Unit {0}

-- the table itself, and so it has no cycle, or the first of its cycles
abbrev pub Checked : Matrix → Result Relations Unsound → Type 0
Checked m (Ok s) = s.matrix ≡ m
Checked m (Err e) = Told m e
