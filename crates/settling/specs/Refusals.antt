-- The line that tells what `settle` refuses, and the line that tells why it ends.
use Rattle.std.specs.Prelude.{ℕ, List, ◌++◌, codes, Some, None, Option}
use Rattle.console.specs.declared.failure.Failure.{Failure}
use Rattle.console.specs.declared.failure.Failure.TheVariants.{File, Memory, Refused as OfProgram, Stream, Usage}
use Rattle.ties.specs.Words.{words as ties_words}
use Rattle.blocks.specs.Words.{words as blocks_words}
use Rattle.script.specs.Words.{fault_words}
use Rattle.lines.specs.Number.{number}
use Rattle.lines.specs.Words.{cause_words}
use Rattle.settling.specs.declared.refused.Refused.{Refused}
use Rattle.settling.specs.declared.refused.Refused.TheVariants.{Blocks, Lines, Ties}

-- what is refused, and the words of the refusal
abbrev pub refused_words : Refused → List ℕ
refused_words (Ties refusal) = codes "ties: " ++ ties_words refusal
refused_words (Blocks refusal) = codes "blocks: " ++ blocks_words refusal
refused_words (Lines fault) =
    codes "lines: " ++ fault_words (number fault.cause) fault.place.0 (cause_words fault.cause)

-- memory could not be had, or a stream was not read or written
abbrev pub no_memory_or_stream_words : List ℕ
no_memory_or_stream_words = codes "out of memory, or the output is closed"

-- the line that tells why it ends; the system says why a file fails
abbrev pub told_output : Failure Refused → Option (List ℕ)
told_output (Usage usage) = Some usage.now
told_output (Stream stream error) = Some no_memory_or_stream_words
told_output (File path error) = None
told_output (OfProgram refused) = Some (refused_words refused)
told_output Memory = Some no_memory_or_stream_words
