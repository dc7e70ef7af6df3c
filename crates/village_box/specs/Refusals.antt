-- The line that tells what a box refuses.
use Rattle.std.specs.Prelude.{ℕ, List, ◌++◌, codes, decimal}
use Rattle.text.specs.Faults.{fault_words}
use Rattle.ties.specs.Words.{words as ties_words}
use Rattle.blocks.specs.Words.{words as blocks_words}
use Rattle.script.specs.Number.{number as number_in_scripts}
use Rattle.script.specs.Words.{cause_words}
use Rattle.speaker.specs.Number.{number as number_in_streams}
use Rattle.speaker.specs.Words.{fault_words as words_in_streams}
use Rattle.village_box.specs.declared.refused.Refused.{Refused}
use Rattle.village_box.specs.declared.refused.Refused.TheVariants.{Blocks, Input, Number, Ties}

-- the place of a word of the command
abbrev pub word_words : ℕ → List ℕ
word_words word = codes "word " ++ decimal word

-- the place of a thing of the input
abbrev pub thing_words : ℕ → List ℕ
thing_words thing = codes "thing " ++ decimal thing

-- what is refused, and the words of the refusal
abbrev pub refused_words : Refused → List ℕ
refused_words (Ties refusal) = codes "ties: " ++ ties_words refusal
refused_words (Blocks refusal) = codes "blocks: " ++ blocks_words refusal
refused_words (Number fault) =
    codes "number: " ++ fault_words (number_in_scripts fault.cause) (word_words fault.place.0) (cause_words fault.cause)
refused_words (Input fault) =
    codes "input: " ++
    fault_words (number_in_streams fault.cause) (thing_words fault.place.0) (words_in_streams fault.cause)
