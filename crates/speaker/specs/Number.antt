-- The number of each fault of what a box gets. Assumes nothing.
use Rattle.std.specs.Prelude.{ℕ}
use Rattle.model.specs.Hearing as hearing
use Rattle.messages.specs.Words as message_words
use Rattle.speaker.specs.declared.fault.Fault.{Fault}
use Rattle.speaker.specs.declared.fault.Fault.TheVariants.{Router, LineOfOthers, NotAMessage}

abbrev pub number : Fault → ℕ
number (Router fault) = hearing.number fault
number LineOfOthers = 6
number (NotAMessage cause) = message_words.number cause
