-- Why a list of turns is refused, in words. Assumes nothing.
use Rattle.std.specs.Prelude.{ℕ, List, codes}
use Rattle.script.specs.Words as words
use Rattle.lines.specs.declared.cause.Cause.{Cause}
use Rattle.lines.specs.declared.cause.Cause.TheVariants.{Line, NoLink}

abbrev pub cause_words : Cause → List ℕ
cause_words (Line c) = words.cause_words c
cause_words NoLink = codes "no line between these networks"
