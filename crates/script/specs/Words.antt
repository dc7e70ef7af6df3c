-- The words in which a faulty line is told. Assumes nothing.
use Rattle.std.specs.Prelude.{ℕ, List, ◌++◌, codes, decimal}
use Rattle.text.specs.Faults as faults
use Rattle.script.specs.declared.cause.Cause.{Cause}
use Rattle.script.specs.declared.cause.Cause.TheVariants.{BadByte, UnknownWord, MissingWord, SurplusWord, NotANumber, NotAnAddress, NoSuchNetwork, NoSuchBlock}

abbrev pub cause_words : Cause → List ℕ
cause_words BadByte = codes "a byte that is not printable"
cause_words UnknownWord = codes "an unknown word"
cause_words MissingWord = codes "a missing word"
cause_words SurplusWord = codes "a surplus word"
cause_words NotANumber = codes "not a number"
cause_words NotAnAddress = codes "not an address"
cause_words NoSuchNetwork = codes "a network not below n"
cause_words NoSuchBlock = codes "no such block"

abbrev pub line_words : ℕ → List ℕ
line_words line = codes "line " ++ decimal line

-- the number of the fault, the line and the cause
abbrev pub fault_words : ℕ → ℕ → List ℕ → List ℕ
fault_words number line text = faults.fault_words number (line_words line) text
