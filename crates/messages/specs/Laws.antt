-- Reading and writing messages undo each other. Assumes nothing.
use Rattle.std.specs.Prelude.{◌≡◌, ℕ, ◌<◌, true, List, [], ◌++◌, length, Ok, None, slice_index}
use Rattle.std.specs.List.{AllByRecursion}
use Rattle.messages.specs.Meaning.{IsAddress, Message, Thing, update, packet, turn}
use Rattle.messages.specs.Reading.{ended, before, onward, message_at, messages_in}
use Rattle.messages.specs.Encoding.{has_bytes, bytes_of, stream_of}

-- an address of 32 bits
abbrev pub Addressed : Thing → Type 0
Addressed (update u) = Unit {0}
Addressed (packet p) = IsAddress p.address
Addressed (turn other up) = Unit {0}

-- a message that has bytes: if it tells a path, one of 1 to 64 networks
pub record Written (m : Message) : Type 0 where
  pub has_bytes : has_bytes m.thing ≡ true
  pub addressed : Addressed m.thing

-- the bytes of a list are bytes
abbrev pub Bytes : List ℕ → Type 0
Bytes bs = (i : ℕ) → slice_index bs i < 256

-- what is written reads back, and what stands behind it is left as it is
abbrev pub WrittenReads : Type 0
WrittenReads = (m : Message) (rest : List ℕ) → Written m → message_at (bytes_of m ++ rest) ≡ Ok (m, rest)

-- what is read writes back as the same bytes
abbrev pub ReadWrites : Type 0
ReadWrites =
    (bs : List ℕ) (m : Message) (rest : List ℕ) → Bytes bs → message_at bs ≡ Ok (m, rest) → bs ≡ bytes_of m ++ rest

-- what is read has bytes
abbrev pub ReadHasBytes : Type 0
ReadHasBytes = (bs : List ℕ) (m : Message) (rest : List ℕ) → Bytes bs → message_at bs ≡ Ok (m, rest) → Written m

-- a message takes a byte at least
abbrev pub TakesBytes : Type 0
TakesBytes = (bs : List ℕ) (m : Message) (rest : List ℕ) → message_at bs ≡ Ok (m, rest) → length rest < length bs

-- a stream is read message by message, to its end or to its first fault
pub record ReadOn : Type 0 where
  pub none : messages_in [] ≡ ended
  pub some : (bs : List ℕ) → 0 < length bs → messages_in bs ≡ onward messages_in (message_at bs)

-- messages that are written one after the other read back as they are, and then what stands behind them
abbrev pub StreamReads : Type 0
StreamReads =
    (ms : List Message) (rest : List ℕ) → AllByRecursion Written ms →
    messages_in (stream_of ms ++ rest) ≡ before ms (messages_in rest)

-- a stream that is read to its end is the messages that it says, written one after the other
abbrev pub StreamWrites : Type 0
StreamWrites = (bs : List ℕ) → Bytes bs → (messages_in bs).fault ≡ None → bs ≡ stream_of (messages_in bs).messages
