-- The line that tells why a program ends with status 1, as far as it is known.
use Rattle.std.specs.Prelude.{ℕ, List, codes, Some, None, Option}
use Rattle.console.specs.declared.failure.Failure.{Failure}
use Rattle.console.specs.declared.failure.Failure.TheVariants.{File, Memory, Refused, Stream as OfStream, Usage}
use Rattle.console.specs.declared.failure.Stream.{Stream}
use Rattle.console.specs.declared.failure.Stream.TheVariants.{Input, Output, Words}

-- what is read or written
abbrev pub stream_words : Stream → List ℕ
stream_words Words = codes "the words of the command"
stream_words Input = codes "standard input"
stream_words Output = codes "standard output"

-- the line of a failure, where that of what the program refuses is known; the system says why a stream or a file fails
abbrev pub failure_output : {R : Type 0} → (R → Option (List ℕ)) → Failure R → Option (List ℕ)
failure_output output (Usage usage) = Some usage.now
failure_output output (OfStream stream error) = None
failure_output output (File path error) = None
failure_output output (Refused refused) = output refused
failure_output output Memory = Some (codes "out of memory")
