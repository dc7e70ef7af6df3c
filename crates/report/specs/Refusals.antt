-- The line that tells what a rehearsal refuses.
use Rattle.std.specs.Prelude.{ℕ, List, ◌++◌, codes, decimal}
use Rattle.ties.specs.Words.{words as ties_words}
use Rattle.blocks.specs.Words.{words as blocks_words}
use Rattle.script.specs.Number.{number}
use Rattle.script.specs.Words.{cause_words, fault_words}
use Rattle.simulation.specs.declared.simulation.making.TheConstants.{MOST_BLOCKS, MOST_NETWORKS}
use Rattle.report.specs.Steps.{step_words}
use Rattle.report.specs.declared.refused.Refused.{Refused}
use Rattle.report.specs.declared.refused.Refused.TheVariants.{Blocks, Line, Step, Ties, TooLarge}

-- what is refused, and the words of the refusal
abbrev pub refused_words : Refused → List ℕ
refused_words (Ties refusal) = codes "ties: " ++ ties_words refusal
refused_words (Blocks refusal) = codes "blocks: " ++ blocks_words refusal
refused_words TooLarge =
    codes "more than " ++ (decimal MOST_NETWORKS ++ (codes " networks or " ++ (decimal MOST_BLOCKS ++ codes " blocks")))
refused_words (Line fault) =
    codes "script: " ++ fault_words (number fault.cause) fault.place.0 (cause_words fault.cause)
refused_words (Step fault) = codes "script: " ++ step_words fault.refusal fault.line
