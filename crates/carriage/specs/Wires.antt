-- The run of boxes that exchange bytes: each box answers bytes by bytes, and what it writes is carried in order. It is
-- a run as of updates and packets, over another kind of item and another step. Assumes nothing.
use Rattle.std.specs.Prelude.{ℕ, ◌^◌, Bool, cond, not, ◌&&◌, List, [], ◌∷◌, Ok, Err, Result, ◌==◌, nat_lt}
use Rattle.std.specs.List.{flat_map}
use Rattle.model.specs.Local.{Local, silent}
use Rattle.model.specs.Packets.{Lookup}
use Rattle.model.specs.Ports.{Port, far}
use Rattle.model.specs.Run.{fresh}
use Rattle.model.specs.Steps.{Step, Behaviour}
use Rattle.model.specs.Steps as Steps
use Rattle.model.specs.World.{World}
use Rattle.messages.specs.Encoding.{bytes_of, thing_bytes}
use Rattle.messages.specs.Meaning.{Message, packet, turn}
use Rattle.messages.specs.Reading.{messages_in}
use Rattle.speaker.specs.Bytes.{Answer, Refused, on_bytes}
use Rattle.speaker.specs.Rule.{people}

-- what a network holds after its box answered, and what the box wrote: nothing where it refused
abbrev pub holding : Local → Result Answer Refused → Local
holding before (Ok answer) = answer.holds
holding before (Err refused) = before

abbrev pub written : Result Answer Refused → List ℕ
written (Ok answer) = answer.writes
written (Err refused) = []

-- of what a box wrote, what goes to port k: the bytes of each message that stands behind that number. What goes to its
-- own people has arrived and is gone
abbrev pub delivered : Port → Message → List (List ℕ)
delivered k m = cond (not (k == people) && m.network == k) (thing_bytes m.thing ∷ []) []

abbrev pub sorted : List ℕ → Port → List (List ℕ)
sorted stream k = flat_map (delivered k) (messages_in stream).messages

-- the box of network i answers bytes: what it then holds, and what it sends
abbrev pub answered : World → Lookup → ℕ → List ℕ → Local → Step Local (List ℕ)
answered w find i bs s = record {
  holds = holding s (on_bytes w find i s bs);
  sends = sorted (written (on_bytes w find i s bs));
}

-- a box is told that its line to another network turns
abbrev pub turning : ℕ → Bool → List ℕ
turning other up = bytes_of (record { network = other; thing = turn other up })

-- the people of network i send a packet: the network's own number stands before it
abbrev pub sending : ℕ → ℕ → List ℕ
sending i address = bytes_of (record { network = i; thing = packet (fresh address) })

-- an address has 32 bits
abbrev pub is_address : ℕ → Bool
is_address address = nat_lt address (2 ^ 32)

-- boxes: before the bytes that come in at a port the number of its network is put; a line that turns, and a packet that
-- people send, come as bytes too
abbrev pub boxes : Lookup → World → Behaviour Local (List ℕ)
boxes find w = record {
  first = silent;
  take = λ i j bs s. answered w find i (far i j ∷ bs) s;
  turn = λ i j up s. answered w find i (turning (far i j) up) s;
  send = λ i address s. answered w find i (sending i address) s;
  is_address = is_address;
}

-- what each network holds, and what is in flight, the oldest first: each the bytes of one thing
abbrev pub Wires : Type 0
Wires = Steps.State Local (List ℕ)

-- the box of network i answers bytes
abbrev pub answers : World → Lookup → Wires → ℕ → List ℕ → Result Answer Refused
answers w find s i bs = on_bytes w find i (s.locals i) bs

-- the oldest bytes at a port are taken; a link turns; people send a packet
abbrev pub taken : World → Lookup → ℕ → Port → List ℕ → List (List ℕ) → Wires → Wires
taken w find i j bs rest s = Steps.taken (boxes find w) i j bs rest s

abbrev pub turned : World → Lookup → ℕ → Port → Bool → Wires → Wires
turned w find i j up s = Steps.turned (boxes find w) i j up s

abbrev pub posted : World → Lookup → ℕ → ℕ → Wires → Wires
posted w find i address s = Steps.posted (boxes find w) i address s

-- the states of all runs
abbrev pub Run : World → Lookup → Wires → Type 0
Run w find = Steps.Reach Local (List ℕ) (boxes find) w

-- bytes are heard
abbrev pub Move : World → Lookup → Wires → Wires → Type 0
Move w find = Steps.Move Local (List ℕ) w (boxes find w)

-- there is no endless run from here in which bytes are heard and nothing else happens
abbrev pub Ends : World → Lookup → Wires → Type 0
Ends w find = Steps.Ends Local (List ℕ) w (boxes find w)
