-- What the parts of a message are read as. Assumes nothing.
use Rattle.std.specs.Prelude.{◌≡◌, ℕ, ◌+◌, ◌-◌, ◌<◌, ◌≤◌, Bool, List, ◌++◌, length, drop, replicate, take, None, Some, Option, Ok, Err, Result, ◌==◌}
use Rattle.advertisement.specs.declared.update.Announcement.{Announcement}
use Rattle.forwarding.specs.declared.packet.Packet.{Packet}
use Rattle.messages.specs.declared.cause.Cause.{Cause}
use Rattle.messages.specs.declared.message.Message.{Message}
use Rattle.messages.specs.declared.message.Thing.{Thing}
use Rattle.messages.specs.Faults.{fault}
use Rattle.messages.specs.Places.{address, block, hops, link_state, most_networks, other, path, path_length}
use Rattle.messages.specs.Reading.{message_in, thing_in}
use Rattle.messages.specs.Values.{Zeroed, message_of, thing_of}

-- nothing is wrong with a message, and what was read is so; or this is its fault
abbrev pub ReadAs : {X : Type 0} → (X → Type 0) → List ℕ → Result X Cause → Type 0
ReadAs Is bs (Ok x) = (fault bs ≡ None) × Is x
ReadAs Is bs (Err cause) = fault bs ≡ Some cause

-- as many networks as a path has, from a place on, and zeros past them; none where fewer stand there
abbrev pub IsPathAt : List ℕ → ℕ → ℕ → Option (List ℕ) → Type 0
IsPathAt bs from size None = length bs < from + size
IsPathAt bs from size (Some networks) =
    (from + size ≤ length bs) ×
    (networks ≡ take size (drop from bs) ++ replicate (most_networks - size) 0)

abbrev pub IsWay : List ℕ → Announcement → Type 0
IsWay bs way =
    (way.block ≡ block bs) ×
    (way.length ≡ path_length bs) ×
    (way.networks ≡ path bs ++ replicate (most_networks - way.length) 0)

abbrev pub IsPacket : List ℕ → Packet → Type 0
IsPacket bs packet = (packet.address.0 ≡ address bs) × (packet.hops ≡ hops bs)

abbrev pub IsTurn : List ℕ → ℕ × Bool → Type 0
IsTurn bs turn = (turn.0 ≡ other bs) × (turn.1 ≡ (link_state bs == 1))

abbrev pub IsThing : List ℕ → Thing → Type 0
IsThing bs thing = (thing_of thing ≡ thing_in bs) × Zeroed thing

abbrev pub IsMessage : List ℕ → Message → Type 0
IsMessage bs message = (message_of message ≡ message_in bs) × Zeroed message.thing
