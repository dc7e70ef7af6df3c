-- The words in which a step that is not played is told.
use Rattle.std.specs.Prelude.{ℕ, List, ◌++◌, codes}
use Rattle.script.specs.Words.{fault_words, line_words}
use Rattle.simulation.specs.Shown.{cause_words, number}
use Rattle.simulation.specs.declared.cause.Refusal.{Refusal}
use Rattle.simulation.specs.declared.cause.Refusal.TheVariants.{Fault, Memory}

-- the number of the fault, the line and the cause; want of memory has no number
abbrev pub step_words : Refusal → ℕ → List ℕ
step_words (Fault cause) line = fault_words (number cause) line (cause_words cause)
step_words Memory line = codes "out of memory at " ++ line_words line
