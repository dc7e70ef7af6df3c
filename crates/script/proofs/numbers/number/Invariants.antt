use Rattle.std.proofs.Common.{◌≡◌, ◌<◌, drop}
use Rattle.std.specs.Option.{option_map}
use Rattle.script.specs.Digits.{capped, value, value_after}
use Rattle.script.proofs.numbers.number.Given as goal

abbrev pub invariant-loop-byte : goal.invariant-loop-byte
invariant-loop-byte l = (l.number < 65536) × (option_map capped (value_after l.number (drop l.byte-index l.word)) ≡ option_map capped (value l.word))
