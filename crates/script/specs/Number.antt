-- The number of each fault of a line. Assumes nothing.
use Rattle.std.specs.Prelude.{ℕ}
use Rattle.script.specs.declared.cause.Cause.{Cause}
use Rattle.script.specs.declared.cause.Cause.TheVariants.{BadByte, UnknownWord, MissingWord, SurplusWord, NotANumber, NotAnAddress, NoSuchNetwork, NoSuchBlock}

abbrev pub number : Cause → ℕ
number BadByte = 1
number UnknownWord = 1
number MissingWord = 1
number SurplusWord = 1
number NotANumber = 1
number NotAnAddress = 1
number NoSuchNetwork = 2
number NoSuchBlock = 2
