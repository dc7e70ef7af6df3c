-- What a network's box does with one message: it refuses it, or this is what the network then holds and what it writes, in
-- order, each with the network that it goes to. Assumes nothing.
use Rattle.std.specs.Prelude.{ℕ, Bool, cond, not, ◌||◌, List, [], ◌∷◌, map, None, Some, Option, Ok, Err, Result, ◌==◌, nat_le}
use Rattle.std.specs.Option.{option_map}
use Rattle.model.specs.FirstFault.{Checks, first_fault}
use Rattle.model.specs.declared.fault.Fault.{Fault as RouterFault}
use Rattle.model.specs.declared.fault.Fault.TheVariants.{NoSuchNetwork, NoLink}
use Rattle.model.specs.Hearing.{hearing_checks, hearing_fault, after_hearing, after_turning, outbox_on_hearing, outbox_on_turning}
use Rattle.model.specs.Local.{Local, Update}
use Rattle.model.specs.Packets.{packet_checks, packet_fault, Packet, Forwarded, arrived, dropped, handed, forwarded, Lookup}
use Rattle.model.specs.Ports.{Port, ports}
use Rattle.model.specs.Relations.{related}
use Rattle.model.specs.World.{World, rel_at}
use Rattle.messages.specs.Meaning.{Message, Thing, update, packet, turn, packet_message}
use Rattle.speaker.specs.declared.fault.Fault.{Fault}
use Rattle.speaker.specs.declared.fault.Fault.TheVariants.{Router, LineOfOthers}

-- what the router may refuse
abbrev pub router_checks : Checks RouterFault → Checks Fault
router_checks checks = map (λ check. (Router check.0, check.1)) checks

-- a network that there is not, or that is not related, at network i
abbrev pub no_network : World → Port → Bool
no_network w j = nat_le (ports w.n) j

abbrev pub not_related : World → ℕ → Port → Bool
not_related w i j = not (related (rel_at w i j))

-- what may be wrong at network i with a turn of the line to another network, which network j tells: either is no neighbour that
-- a line may lead to, or the line is not the one between i and j
abbrev pub line_checks : World → ℕ → Port → Port → Checks Fault
line_checks w i j other =
    (Router NoSuchNetwork, no_network w j || no_network w other) ∷
    (LineOfOthers, not (other == j)) ∷
    (Router NoLink, not_related w i j || not_related w i other) ∷
    []

abbrev pub line_fault : World → ℕ → ℕ → ℕ → Option Fault
line_fault w i j other = first_fault (line_checks w i j other)

-- what may be wrong with the sender of a packet: its own people send as the network itself, and nothing is
abbrev pub sender_checks : World → ℕ → Local → ℕ → Checks Fault
sender_checks w i s j = cond (j == i) [] (router_checks (packet_checks w i s j))

abbrev pub sender_fault : World → ℕ → Local → ℕ → Option Fault
sender_fault w i s j = cond (j == i) None (option_map Router (packet_fault w i s j))

-- what may be wrong with a thing from network j
abbrev pub thing_checks : World → ℕ → Local → ℕ → Thing → Checks Fault
thing_checks w i s j (update u) = router_checks (hearing_checks w i s j u)
thing_checks w i s j (packet p) = sender_checks w i s j
thing_checks w i s j (turn other up) = line_checks w i j other

-- what the network holds once it took a message, and what it wrote
pub record Taken : Type 0 where
  pub holds : Local
  pub writes : List Message

-- where a packet that has arrived goes: to the network's own people
abbrev pub people : ℕ
people = 255

-- updates, each to its neighbour
abbrev pub update_messages : List (ℕ × Update) → List Message
update_messages told = map (λ x. record { network = x.0; thing = update x.1 }) told

-- a packet that has arrived goes to the people as it came, one that is handed on to its neighbour, and a dropped one nowhere
abbrev pub packet_messages : Packet → Forwarded → List Message
packet_messages p arrived = packet_message people p ∷ []
packet_messages p (dropped why) = []
packet_messages p (handed j q) = packet_message j q ∷ []

-- refused where there is a fault, and otherwise taken
abbrev pub taken_unless : Option Fault → Taken → Result Taken Fault
taken_unless None taken = Ok taken
taken_unless (Some fault) taken = Err fault

abbrev pub on_update : World → ℕ → Local → ℕ → Update → Result Taken Fault
on_update w i s j u = taken_unless (option_map Router (hearing_fault w i s j u)) (record {
  holds = after_hearing w i j u s;
  writes = update_messages (outbox_on_hearing w i j u s);
})

abbrev pub on_packet : World → Lookup → ℕ → Local → ℕ → Packet → Result Taken Fault
on_packet w at i s j p = taken_unless (sender_fault w i s j) (record {
  holds = s;
  writes = packet_messages p (forwarded w at i s p);
})

abbrev pub on_turn : World → ℕ → Local → ℕ → ℕ → Bool → Result Taken Fault
on_turn w i s j other up = taken_unless (line_fault w i j other) (record {
  holds = after_turning w i other up s;
  writes = update_messages (outbox_on_turning w i other up s);
})

-- what network i does with a thing from network j, where `at` says which block an address is in
abbrev pub on_thing : World → Lookup → ℕ → Local → ℕ → Thing → Result Taken Fault
on_thing w at i s j (update u) = on_update w i s j u
on_thing w at i s j (packet p) = on_packet w at i s j p
on_thing w at i s j (turn other up) = on_turn w i s j other up

abbrev pub on_message : World → Lookup → ℕ → Local → Message → Result Taken Fault
on_message w at i s m = on_thing w at i s m.network m.thing
