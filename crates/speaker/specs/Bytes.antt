-- What a network's box does with the bytes at the front of a stream. Assumes nothing.
use Rattle.std.specs.Prelude.{ℕ, ◌+◌, ◌-◌, ◌*◌, List, ◌++◌, length, map, None, Some, Option, Ok, Err, Result}
use Rattle.model.specs.FirstFault.{Checks}
use Rattle.model.specs.Local.{Local}
use Rattle.model.specs.Packets.{Lookup}
use Rattle.model.specs.World.{World}
use Rattle.messages.specs.Encoding.{stream_of}
use Rattle.messages.specs.Faults.{checks}
use Rattle.messages.specs.Meaning.{Message, Thing, update, packet, turn}
use Rattle.messages.specs.Places.{most_bytes, most_networks}
use Rattle.messages.specs.Reading.{message_at, message_in}
use Rattle.messages.specs.declared.cause.Cause.{Cause}
use Rattle.speaker.specs.Rule.{Taken, on_message, thing_checks}
use Rattle.speaker.specs.declared.fault.Fault.{Fault}
use Rattle.speaker.specs.declared.fault.Fault.TheVariants.{NotAMessage}

-- the message was taken: what the network then holds, the bytes that it wrote, and how many bytes the message had
pub record Answer : Type 0 where
  pub holds : Local
  pub writes : List ℕ
  pub length : ℕ

-- it was refused: its fault, and how many bytes it has; that is not known where the bytes are no message
pub record Refused : Type 0 where
  pub fault : Fault
  pub length : Option ℕ

-- of a message of so many bytes
abbrev pub measured : ℕ → Result Taken Fault → Result Answer Refused
measured long (Ok taken) = Ok (record { holds = taken.holds; writes = stream_of taken.writes; length = long })
measured long (Err fault) = Err (record { fault = fault; length = Some long })

-- of bytes that read as this
abbrev pub on_reading : World → Lookup → ℕ → Local → List ℕ → Result (Message × List ℕ) Cause → Result Answer Refused
on_reading w at i s bs (Ok read) = measured (length bs - length read.1) (on_message w at i s read.0)
on_reading w at i s bs (Err cause) = Err (record { fault = NotAMessage cause; length = None })

-- what network i does with the message at the front of these bytes
abbrev pub on_bytes : World → Lookup → ℕ → Local → List ℕ → Result Answer Refused
on_bytes w at i s bs = on_reading w at i s bs (message_at bs)

-- what may be wrong with these bytes: as a message, and then with what the message says
abbrev pub bytes_checks : World → ℕ → Local → List ℕ → Checks Fault
bytes_checks w i s bs =
    map (λ check. (NotAMessage check.0, check.1)) (checks bs) ++
    thing_checks w i s (message_in bs).network (message_in bs).thing

-- a block is told to no more than the most networks
abbrev pub most_of_block : ℕ
most_of_block = most_networks * most_bytes

-- no more bytes than these are written on a message, where there are so many blocks: an update tells its block, and a
-- turn all
abbrev pub most : Thing → ℕ → ℕ
most (update u) blocks = most_of_block
most (packet p) blocks = most_bytes
most (turn other up) blocks = most_of_block * blocks

-- as many are never written
abbrev pub enough : ℕ → ℕ
enough blocks = most_of_block * (blocks + 1)
