-- The number of each fault of a list of turns. Assumes nothing.
use Rattle.std.specs.Prelude.{ℕ}
use Rattle.script.specs.Number as script
use Rattle.lines.specs.declared.cause.Cause.{Cause}
use Rattle.lines.specs.declared.cause.Cause.TheVariants.{Line, NoLink}

abbrev pub number : Cause → ℕ
number (Line c) = script.number c
number NoLink = 10
