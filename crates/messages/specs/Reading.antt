-- What is read at the front of any bytes, and of a whole stream of messages. Assumes nothing.
use Rattle.std.specs.Prelude.{ℕ, zero, suc, cond, List, [], ◌∷◌, ◌++◌, length, drop, Some, None, Ok, Err, Option, Result, ◌==◌}
use Rattle.model.specs.Paths.{path_over}
use Rattle.model.specs.Selection.{Said}
use Rattle.messages.specs.declared.cause.Cause.{Cause}
use Rattle.messages.specs.Meaning.{Message, Thing, update, packet, turn}
use Rattle.messages.specs.Places.{network, kind, block, path, address, hops, other, link_state, extent}
use Rattle.messages.specs.Faults.{fault}

-- an update of the block that stands there
abbrev pub update_in : List ℕ → Said → Thing
update_in bs says = update (record { block = block bs; says = says })

-- what the bytes say as a thing of a kind
abbrev pub thing_by : ℕ → List ℕ → Thing
thing_by kind bs =
    cond (kind == 1) (update_in bs (Some (path_over (path bs))))
    (cond (kind == 2) (update_in bs None)
    (cond (kind == 3) (packet (record { address = address bs; hops = hops bs }))
    (turn (other bs) (link_state bs == 1))))

abbrev pub thing_in : List ℕ → Thing
thing_in bs = thing_by (kind bs) bs

abbrev pub message_in : List ℕ → Message
message_in bs = record { network = network bs; thing = thing_in bs }

-- the message and the bytes behind it, where nothing is told of it
abbrev pub answer : Option Cause → List ℕ → Result (Message × List ℕ) Cause
answer None bs = Ok (message_in bs, drop (extent bs) bs)
answer (Some cause) bs = Err cause

-- the message that stands at the front of any bytes and what is left, or its fault
abbrev pub message_at : List ℕ → Result (Message × List ℕ) Cause
message_at bs = answer (fault bs) bs

-- what a stream says: messages to its end, or to the first that has a fault
pub record Stream : Type 0 where
  pub messages : List Message
  pub fault : Option Cause

-- nothing is left
abbrev pub ended : Stream
ended = record { messages = []; fault = None }

-- messages before the rest of a stream
abbrev pub before : List Message → Stream → Stream
before ms s = record { messages = ms ++ s.messages; fault = s.fault }

-- a message, and what the bytes behind it say
abbrev pub onward : (List ℕ → Stream) → Result (Message × List ℕ) Cause → Stream
onward further (Ok read) = before (read.0 ∷ []) (further read.1)
onward further (Err cause) = record { messages = []; fault = Some cause }

-- what bytes say of which at most so many messages are read
unfoldable pub messages_within : ℕ → List ℕ → Stream
messages_within zero bs = ended
messages_within (suc most) [] = ended
messages_within (suc most) (b ∷ bs) = onward (messages_within most) (message_at (b ∷ bs))

-- what a stream says: each message takes a byte at least, so there are no more of them than bytes
abbrev pub messages_in : List ℕ → Stream
messages_in bs = messages_within (length bs) bs
