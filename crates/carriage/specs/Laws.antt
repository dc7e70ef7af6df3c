-- What holds of every run of bytes. Assumes nothing.
use Rattle.std.specs.Prelude.{◌≡◌, ℕ, ◌<◌, ◌≢◌, Bool, true, None, List, [], ◌∷◌, length, map, Ok, Err, Result}
use Rattle.model.specs.Relations.{related}
use Rattle.model.specs.Packets.{Lookup}
use Rattle.model.specs.Promise.{Promise}
use Rattle.model.specs.Run.{Item, update, packet, State, Reach}
use Rattle.model.specs.World.{World, Sound}
use Rattle.messages.specs.Encoding.{stream_of, thing_bytes}
use Rattle.messages.specs.Meaning.{IsAddress, Message, Thing}
use Rattle.messages.specs.Meaning as meaning
use Rattle.messages.specs.Reading.{message_at, messages_in}
use Rattle.messages.specs.declared.cause.Cause.{Cause}
use Rattle.speaker.specs.Bytes.{Answer, Refused}
use Rattle.carriage.specs.Wires.{Ends, Move, Wires, Run, taken, answers, sending, turning, written}

-- an item of the model as a thing, its bytes, and what is read of them behind the number of their sender: it, and
-- nothing more
abbrev pub thing_of : Item → Thing
thing_of (update u) = meaning.update u
thing_of (packet p) = meaning.packet p

abbrev pub item_bytes : Item → List ℕ
item_bytes x = thing_bytes (thing_of x)

abbrev pub message_from : ℕ → Item → Message
message_from i x = record { network = i; thing = thing_of x }

abbrev pub read_from : ℕ → Item → Result (Message × List ℕ) Cause
read_from i x = Ok (message_from i x, [])

-- a state of bytes says a state of the model: what each network holds, and the items in flight, whose bytes they are,
-- and as which they are read
pub record Says (s : Wires) (t : State) : Type 0 where
  pub locals : (i : ℕ) → s.locals i ≡ t.locals i
  pub bytes : (i j : ℕ) → s.flight i j ≡ map item_bytes (t.flight i j)
  pub reads : (i j : ℕ) → map (λ bs. message_at (i ∷ bs)) (s.flight i j) ≡ map (read_from i) (t.flight i j)

-- bytes are taken as one message, to their end
abbrev pub Whole : List ℕ → Result Answer Refused → Type 0
Whole bs (Ok answer) = answer.length ≡ length bs
Whole bs (Err refused) = ⊥

-- a box refuses nothing: it takes these bytes, to their end, and what it writes is messages one after the other, to
-- its end, by which it is sorted
pub record Takes (bs : List ℕ) (answer : Result Answer Refused) : Type 0 where
  pub whole : Whole bs answer
  pub faultless : (messages_in (written answer)).fault ≡ None
  pub written : stream_of (messages_in (written answer)).messages ≡ written answer

-- a state of bytes says one that the model reaches, of which the promise holds; and whatever comes next, no box refuses
-- it: the oldest bytes of a queue, which can be heard, a turn of a link, and what people send. If bytes are only heard
-- from here, that ends
pub record Keeps (w : World) (find : Lookup) (s : Wires) (t : State) : Type 0 where
  pub says : Says s t
  pub reached : Reach w find t
  pub promise : Promise w find t
  pub ends : Ends w find s
  pub progress : (i j : ℕ) (bs : List ℕ) (rest : List (List ℕ)) →
      s.flight i j ≡ bs ∷ rest → Move w find s (taken w find i j bs rest s)
  pub heard : (i j : ℕ) (bs : List ℕ) (rest : List (List ℕ)) →
      s.flight i j ≡ bs ∷ rest → Takes (i ∷ bs) (answers w find s j (i ∷ bs))
  pub turned : (i j : ℕ) (up : Bool) →
      i < w.n → j < w.n → (i ≢ j) → related (w.rel i j) ≡ true →
      Takes (turning j up) (answers w find s i (turning j up))
  pub sent : (i address : ℕ) →
      i < w.n → IsAddress address → Takes (sending i address) (answers w find s i (sending i address))

-- of sound ties, every state of every run of bytes
abbrev pub BytesKeepThePromise : Type 0
BytesKeepThePromise =
    (w : World) (find : Lookup) → Sound w → (s : Wires) → Run w find s → (t : State) × Keeps w find s t
