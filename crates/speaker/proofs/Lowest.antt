-- Of what may be wrong with bytes, the fault that is told has the lowest number. Assumes nothing.
use Rattle.std.proofs.Common.{◌≡◌, ℕ, ◌-◌, Bool, true, false, List, [], ◌∷◌, ◌++◌, length, map, cond, eqb, Some, None, Option, Ok, Err, Result, refl, sym, ap, subst, ◌∙◌}
use Rattle.std.specs.Option.{option_map}
use Rattle.model.specs.Checks.{Checks, IsLowest, ascends_from, first_fault}
use Rattle.model.proofs.Checks.{first_is_lowest}
use Rattle.model.specs.Local.{Local}
use Rattle.model.specs.Packets.{Lookup, packet_checks}
use Rattle.model.specs.World.{World}
use Rattle.model.specs.declared.fault.Fault.{Fault as RouterFault}
use Rattle.model.specs.Hearing.{hearing_checks}
use Rattle.messages.specs.Faults.{checks, fault}
use Rattle.messages.specs.Meaning.{Message, Thing, update, packet, turn}
use Rattle.messages.specs.Reading.{answer, message_at, message_in}
use Rattle.messages.specs.declared.cause.Cause.{Cause}
use Rattle.speaker.specs.Answers.{Measured, Obeys, TellsLowest}
use Rattle.speaker.specs.Bytes.{Answer, Refused, bytes_checks, measured, on_bytes, on_reading}
use Rattle.speaker.specs.Rule.{Taken, on_message, on_thing, router_checks, taken_unless, thing_checks}
use Rattle.speaker.specs.Number.{number}
use Rattle.speaker.specs.declared.fault.Fault.{Fault}
use Rattle.speaker.specs.declared.fault.Fault.TheVariants.{NotAMessage, Router}
use Rattle.speaker.specs.declared.refusal.Refusal.{Refusal}

-- the first of what the router may refuse
first_router : (checks : Checks RouterFault) → first_fault (router_checks checks) ≡ option_map Router (first_fault checks)
first_router [] = refl
first_router ((fault, true) ∷ later) = refl
first_router ((fault, false) ∷ later) = first_router later

-- what is told where the bytes have this fault, and their message may have more
abbrev told : Option Cause → Checks Fault → Option Fault
told None more = first_fault more
told (Some cause) more = Some (NotAMessage cause)

first_behind : (xs : Checks Cause) (more : Checks Fault) (t : Option Cause) → first_fault xs ≡ t → first_fault (map (λ check. (NotAMessage check.0, check.1)) xs ++ more) ≡ told t more
first_behind [] more None e = refl
first_behind [] more (Some cause) e = cc
first_behind ((cause, true) ∷ xs) more None e = cc
first_behind ((cause, true) ∷ xs) more (Some other) e = let same : cause ≡ other = cc in ap (λ c. Some (NotAMessage c)) same
first_behind ((cause, false) ∷ xs) more t e = first_behind xs more t e

-- the fault of an answer
abbrev fault_of : Result Answer Refused → Option Fault
fault_of (Ok answer) = None
fault_of (Err refused) = Some refused.fault

fault_of_taken : (f : Option Fault) (taken : Taken) (long : ℕ) → fault_of (measured long (taken_unless f taken)) ≡ f
fault_of_taken None taken long = refl
fault_of_taken (Some fault) taken long = refl

module _ (w : World) (at : Lookup) (i : ℕ) (s : Local) where
  sender : (b : Bool) (checks : Checks RouterFault) → first_fault (cond b [] (router_checks checks)) ≡ cond b None (option_map Router (first_fault checks))
  sender true checks = refl
  sender false checks = first_router checks

  thing : (j : ℕ) (t : Thing) (long : ℕ) → first_fault (thing_checks w i s j t) ≡ fault_of (measured long (on_thing w at i s j t))
  thing j (update u) long = first_router (hearing_checks w i s j u) ∙ sym (fault_of_taken _ _ long)
  thing j (packet p) long = sender (eqb j i) (packet_checks w i s j) ∙ sym (fault_of_taken _ _ long)
  thing j (turn other up) long = sym (fault_of_taken _ _ long)

  by_fault : (bs : List ℕ) (t : Option Cause) → told t (thing_checks w i s (message_in bs).network (message_in bs).thing) ≡ fault_of (on_reading w at i s bs (answer t bs))
  by_fault bs None = thing (message_in bs).network (message_in bs).thing _
  by_fault bs (Some cause) = refl

  first_is : (bs : List ℕ) → first_fault (bytes_checks w i s bs) ≡ fault_of (on_bytes w at i s bs)
  first_is bs = first_behind (checks bs) (thing_checks w i s (message_in bs).network (message_in bs).thing) (fault bs) refl ∙ by_fault bs (fault bs)

  things_ascend : (j : ℕ) (t : Thing) → ascends_from number 1 (thing_checks w i s j t) ≡ true
  things_ascend j (update u) = refl
  things_ascend j (packet p) = by (eqb j i)
    where
      by : (b : Bool) → ascends_from number 1 (cond b [] (router_checks (packet_checks w i s j))) ≡ true
      by true = refl
      by false = refl
  things_ascend j (turn other up) = refl

  lowest : (bs : List ℕ) → IsLowest number (bytes_checks w i s bs) (fault_of (on_bytes w at i s bs))
  lowest bs = subst (IsLowest number (bytes_checks w i s bs)) (first_is bs) (first_is_lowest number 1 (bytes_checks w i s bs) (things_ascend (message_in bs).network (message_in bs).thing))

-- what is told of bytes that are no message, and of a message
pub unread_lowest : (w : World) (at : Lookup) (i : ℕ) (s : Local) (bs : List ℕ) (cause : Cause) → message_at bs ≡ Err cause → IsLowest number (bytes_checks w i s bs) (Some (NotAMessage cause))
unread_lowest w at i s bs cause e = subst (λ r. IsLowest number (bytes_checks w i s bs) (fault_of (on_reading w at i s bs r))) e (lowest w at i s bs)

obeyed : (checks : Checks Fault) (x : Result Taken Fault) (long size : ℕ) (now : Local) (before after : List ℕ) (done : Result (Unit {0}) Fault) (r : Result ℕ Refusal) → IsLowest number checks (fault_of (measured long x)) → Obeys x now before after done → Measured done size r → TellsLowest checks r
obeyed checks (Ok taken) long size now before after (Ok u) r l o m = subst (TellsLowest checks) (sym m) l
obeyed checks (Ok taken) long size now before after (Err fault) r l o m = absurd o
obeyed checks (Err fault) long size now before after (Ok u) r l o m = absurd o
obeyed checks (Err fault) long size now before after (Err told) r l o m = subst (TellsLowest checks) (sym m) (subst (λ f. IsLowest number checks (Some f)) (sym o) l)

pub message_lowest : (w : World) (at : Lookup) (i : ℕ) (s : Local) (bs : List ℕ) (m : Message) (rest : List ℕ) (size : ℕ) (now : Local) (before after : List ℕ) (done : Result (Unit {0}) Fault) (r : Result ℕ Refusal) → message_at bs ≡ Ok (m, rest) → Obeys (on_message w at i s m) now before after done → Measured done size r → TellsLowest (bytes_checks w i s bs) r
message_lowest w at i s bs m rest size now before after done r e =
    obeyed (bytes_checks w i s bs) (on_message w at i s m) (length bs - length rest) size now before after done r (subst (λ r. IsLowest number (bytes_checks w i s bs) (fault_of (on_reading w at i s bs r))) e (lowest w at i s bs))
