-- What a box answers, as against the rule. Assumes nothing.
use Rattle.std.specs.Prelude.{◌≡◌, ℕ, ◌-◌, List, ◌++◌, length as len, Ok, Err, None, Some, Result}
use Rattle.model.specs.Checks.{Checks, IsLowest}
use Rattle.model.specs.Local.{Local}
use Rattle.blocks.specs.declared.blocks.Blocks.{Blocks}
use Rattle.forwarding.specs.Forwarding.{lookup, forwarded_of}
use Rattle.forwarding.specs.declared.packet.Forwarded.{Forwarded}
use Rattle.links.specs.Held.{blocks_of, held, number_of, world_for}
use Rattle.model.specs.Packets.{Packet, forwarded, Lookup}
use Rattle.model.specs.World.{World}
use Rattle.links.specs.declared.router.Router.{Router}
use Rattle.links.specs.declared.tables.Tables.{Tables}
use Rattle.selection.specs.declared.world.World.{World as Lent}
use Rattle.messages.specs.Encoding.{stream_of}
use Rattle.messages.specs.Reading.{message_at}
use Rattle.messages.specs.Values.{message_of}
use Rattle.messages.specs.declared.cause.Cause.{Cause}
use Rattle.messages.specs.declared.message.Message as program
use Rattle.speaker.specs.Rule.{Taken, line_fault, sender_fault}
use Rattle.speaker.specs.Number.{number}
use Rattle.speaker.specs.Bytes.{Answer, Refused, bytes_checks, on_bytes}
use Rattle.speaker.specs.declared.fault.Fault.{Fault}
use Rattle.speaker.specs.declared.refusal.Refusal.{Refusal}
use Rattle.speaker.specs.declared.refusal.Refusal.TheVariants.{Fault as Faulty, Memory}

-- a message that was read at the front of the bytes, and how many bytes it has; or why there is none
abbrev pub Read : List ℕ → Result (program.Message × ℕ) Cause → Type 0
Read bs (Ok read) = (rest : List ℕ) × (message_at bs ≡ Ok (message_of read.0, rest)) × (read.1 ≡ len bs - len rest)
Read bs (Err cause) = message_at bs ≡ Err cause

-- what the rule of bytes says of a router, over what all networks share, its tables and the blocks
abbrev pub ruled : Router → Lent → Tables → Blocks → List ℕ → Result Answer Refused
ruled router world t blocks bs = on_bytes (world_for world t) (lookup (blocks_of t) blocks) (number_of router) (held router t) bs

-- what may be wrong with bytes that it gets
abbrev pub checks_of : Router → Lent → Tables → List ℕ → Checks Fault
checks_of router world t bs = bytes_checks (world_for world t) (number_of router) (held router t) bs

-- a packet from network j becomes what the rules say, or is refused
abbrev pub IsForwarded : World → Lookup → ℕ → Local → ℕ → Packet → Result Forwarded Fault → Type 0
IsForwarded w at i s j p (Ok became) = (sender_fault w i s j ≡ None) × (forwarded_of became ≡ forwarded w at i s p)
IsForwarded w at i s j p (Err fault) = sender_fault w i s j ≡ Some fault

-- as the rule says, a message was taken: this is held now, and what is written stands behind what was written before; or it was
-- refused with its fault
abbrev pub Obeys : Result Taken Fault → Local → List ℕ → List ℕ → Result (Unit {0}) Fault → Type 0
Obeys (Ok taken) now before after (Ok _) = (now ≡ taken.holds) × (after ≡ before ++ stream_of taken.writes)
Obeys (Ok taken) now before after (Err fault) = ⊥
Obeys (Err fault) now before after (Ok _) = ⊥
Obeys (Err fault) now before after (Err told) = told ≡ fault

-- whatever is tied, a turn of the line to another network that network j tells is refused with this fault, where there are so
-- many networks
abbrev pub RefusesTurn : ℕ → ℕ → ℕ → Fault → Type 0
RefusesTurn n j other fault = (w : World) (i : ℕ) → w.n ≡ n → line_fault w i j other ≡ Some fault

-- all that a box answers, as against the rule of bytes: what was taken, as above; or a refusal: the fault that is told, with the
-- length of the message where the bytes are one. Want of memory says nothing
abbrev pub Refuses : Refused → Refusal → Type 0
Refuses refused (Faulty fault length) = (fault ≡ refused.fault) × (length ≡ refused.length)
Refuses refused Memory = Unit {0}

abbrev pub IsMemory : Refusal → Type 0
IsMemory (Faulty fault length) = ⊥
IsMemory Memory = Unit {0}

abbrev pub Answered : Result Answer Refused → Local → List ℕ → List ℕ → Result ℕ Refusal → Type 0
Answered (Ok answer) now before after (Ok length) =
    (length ≡ answer.length) × (now ≡ answer.holds) × (after ≡ before ++ answer.writes)
Answered (Ok answer) now before after (Err refusal) = IsMemory refusal
Answered (Err refused) now before after (Ok length) = ⊥
Answered (Err refused) now before after (Err refusal) = Refuses refused refusal

-- a refusal names the length of the message
abbrev pub Measured : Result (Unit {0}) Fault → ℕ → Result ℕ Refusal → Type 0
Measured (Ok _) long answer = answer ≡ Ok long
Measured (Err fault) long answer = answer ≡ Err (Faulty fault (Some long))

-- a refusal for a fault, and not for want of memory
abbrev pub IsForFault : Refusal → Type 0
IsForFault (Faulty fault length) = Unit {0}
IsForFault Memory = ⊥

-- of what may be wrong, the fault that is told has the lowest number, and nothing is wrong with what is taken. Want of
-- memory says nothing
abbrev pub TellsLowest : Checks Fault → Result ℕ Refusal → Type 0
TellsLowest checks (Ok length) = IsLowest number checks None
TellsLowest checks (Err (Faulty fault length)) = IsLowest number checks (Some fault)
TellsLowest checks (Err Memory) = Unit {0}
