-- The words in which a fault of a message is told. Assumes nothing.
use Rattle.std.specs.Prelude.{ℕ, List, codes}
use Rattle.messages.specs.declared.cause.Cause.{Cause}
use Rattle.messages.specs.declared.cause.Cause.TheVariants.{UnknownKind, Cut, BadLength, NeitherUpNorDown}

-- the number of a fault
abbrev pub number : Cause → ℕ
number cause = 1

abbrev pub cause_words : Cause → List ℕ
cause_words UnknownKind = codes "unknown kind"
cause_words Cut = codes "bad length: cut short"
cause_words BadLength = codes "bad length: 0 or above 64 networks"
cause_words NeitherUpNorDown = codes "a line neither up nor down"
