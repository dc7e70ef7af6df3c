-- What the messages of the program say, in the terms of the rules. Assumes nothing.
use Rattle.std.specs.Prelude.{◌≡◌, ◌-◌, drop, replicate}
use Rattle.advertisement.specs.Updates.{news}
use Rattle.forwarding.specs.Forwarding.{packet_of}
use Rattle.advertisement.specs.declared.update.Update.{Update}
use Rattle.advertisement.specs.declared.update.Update.TheVariants.{Announce, Withdraw}
use Rattle.messages.specs.declared.message as program
use Rattle.messages.specs.declared.message.Thing.TheVariants as variant
use Rattle.messages.specs.Meaning.{Message, Thing, update, packet, turn}
use Rattle.messages.specs.Places.{most_networks}

abbrev pub thing_of : program.Thing.Thing → Thing
thing_of (variant.Update u) = update (news u)
thing_of (variant.Packet p) = packet (packet_of p)
thing_of (variant.Turn other up) = turn other up

abbrev pub message_of : program.Message.Message → Message
message_of m = record { network = m.network; thing = thing_of m.thing }

-- past its length an announcement that is read has zeros
abbrev pub ZeroedUpdate : Update → Type 0
ZeroedUpdate (Announce a) = drop a.length a.networks ≡ replicate (most_networks - a.length) 0
ZeroedUpdate (Withdraw block) = Unit {0}

abbrev pub Zeroed : program.Thing.Thing → Type 0
Zeroed (variant.Update u) = ZeroedUpdate u
Zeroed (variant.Packet p) = Unit {0}
Zeroed (variant.Turn other up) = Unit {0}
