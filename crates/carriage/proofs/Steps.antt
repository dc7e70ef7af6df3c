-- What a box does in a run: as the model says. Assumes nothing.
use Rattle.std.proofs.Common.{◌≡◌, ℕ, ◌-◌, ◌<◌, ◌≤◌, ◌^◌, Bool, true, false, cond, eqb, List, [], ◌∷◌, length, map, None, Ok, Result, sym, refl, ap, ◌∙◌, subst, arith}
use Rattle.std.specs.Option.{option_map}
use Rattle.std.specs.List.{AllByRecursion, flat_map}
use Rattle.std.proofs.lemmas.Bool.{eq-eqb}
use Rattle.model.specs.Relations.{related}
use Rattle.model.specs.Hearing.{after_hearing, after_turning, every, forgotten, hearing_fault, only, outbox_on_hearing, outbox_on_turning, replaced, sent_on_hearing, sent_on_turning, turning_fault}
use Rattle.model.specs.Local.{Local, Update}
use Rattle.model.specs.Packets.{packet_fault, Packet, handed, forwarded, Lookup}
use Rattle.model.specs.Promise.{ProperSaying}
use Rattle.model.specs.Run.{Item, update, packet, onward, updates, fresh}
use Rattle.model.specs.World.{World}
use Rattle.model.proofs.Faults.{no_packet_fault, no_turning_fault}
use Rattle.delivery.proofs.Hops.{hops_fall}
use Rattle.messages.specs.Encoding.{stream_of}
use Rattle.messages.specs.Laws.{Written}
use Rattle.messages.specs.Meaning.{Message}
use Rattle.messages.specs.Meaning as meaning
use Rattle.messages.specs.Reading.{message_at}
use Rattle.speaker.specs.Bytes.{Answer, Refused, measured, on_bytes, on_reading}
use Rattle.speaker.specs.Rule.{Taken, packet_messages, taken_unless, on_message, sender_fault, update_messages}
use Rattle.speaker.specs.declared.fault.Fault.TheVariants.{Router}
use Rattle.speaker.proofs.Lines.{own_line}
use Rattle.carriage.specs.Laws.{Takes, item_bytes, message_from}
use Rattle.carriage.specs.Wires.{delivered, holding, sorted, written, sending, turning}
use Rattle.carriage.proofs.Sorting.{packets_sorted, unless_sorted}
use Rattle.carriage.proofs.Writing.{item_reads, reads_alone, stream_alone, written_packets, written_unless}

-- a box took bytes as a whole: this is what its network then holds, and these items are what it wrote to each other network
pub record Made (before : Local) (bs : List ℕ) (answer : Result Answer Refused) (after : Local) (more : ℕ → List Item) : Type 0 where
  pub holds : holding before answer ≡ after
  pub sends : (k : ℕ) → sorted (written answer) k ≡ map item_bytes (more k)
  pub takes : Takes bs answer

-- what is answered where a message takes all bytes
abbrev answered : List ℕ → Taken → Result Answer Refused
answered bs taken = Ok (record { holds = taken.holds; writes = stream_of taken.writes; length = length bs - 0 })

module _ (w : World) (find : Lookup) (j : ℕ) (l : Local) (bs : List ℕ) (m : Message) (taken : Taken) (more : ℕ → List Item) where
  box_made : message_at bs ≡ Ok (m, []) → on_message w find j l m ≡ Ok taken → AllByRecursion Written taken.writes → ((k : ℕ) → flat_map (delivered k) taken.writes ≡ map item_bytes (more k)) → Made l bs (on_bytes w find j l bs) taken.holds more
  box_made read rule all sorts =
      subst (λ a. Made l bs a taken.holds more) (sym (ap (on_reading w find j l bs) read ∙ ap (measured (length bs - 0)) rule)) (record {
        holds = refl;
        sends = λ k. ap (flat_map (delivered k)) (ap (λ z. z.messages) (stream_alone taken.writes all)) ∙ sorts k;
        takes = record { whole = omega arith; faultless = ap (λ z. z.fault) (stream_alone taken.writes all); written = ap stream_of (ap (λ z. z.messages) (stream_alone taken.writes all)) };
      })

-- an update is heard
pub update_made : (w : World) → w.n ≤ 64 → (find : Lookup) (i j : ℕ) (u : Update) (l : Local) → Written (message_from i (update u)) → hearing_fault w j l i u ≡ None → ((b k : ℕ) → ProperSaying w k j b ((after_hearing w j i u l).advertised b k)) → Made l (i ∷ item_bytes (update u)) (on_bytes w find j l (i ∷ item_bytes (update u))) (after_hearing w j i u l) (λ k. updates (sent_on_hearing w j i u l k))
update_made w few find i j u l has clear proper =
    let taken : Taken = record { holds = after_hearing w j i u l; writes = update_messages (outbox_on_hearing w j i u l) } in
    let f = hearing_fault w j l i u in
    let these = only u.block in
    let s = replaced i u l in
    box_made w find j l (i ∷ item_bytes (update u)) (message_from i (update u)) taken (λ k. updates (sent_on_hearing w j i u l k)) (item_reads i (update u) has) (ap (λ o. taken_unless (option_map Router o) taken) clear) (written_unless w j these s f l proper) (unless_sorted w few j these s f)

-- where it goes on, a network of the 64, with the same address
goes_within : (w : World) → w.n ≤ 64 → (find : Lookup) (i : ℕ) (l : Local) (p : Packet) (j : ℕ) (q : Packet) → forwarded w find i l p ≡ handed j q → j < 64
goes_within w few find i l p j q e = let h = (hops_fall w find i l p j q e).there in omega (arith, few, h)

-- a packet is taken whose sender has no fault
pub packet_made : (w : World) → w.n ≤ 64 → (find : Lookup) (i j : ℕ) (p : Packet) (l : Local) (bs : List ℕ) → message_at bs ≡ Ok (message_from i (packet p), []) → p.address < 2 ^ 32 → sender_fault w j l i ≡ None → Made l bs (on_bytes w find j l bs) l (onward (forwarded w find j l p))
packet_made w few find i j p l bs read short clear =
    let became = forwarded w find j l p in
    let taken : Taken = record { holds = l; writes = packet_messages p became } in
    box_made w find j l bs (message_from i (packet p)) taken (onward became) read (ap (λ o. taken_unless o taken) clear) (written_packets p became short (λ k q e. (hops_fall w find j l p k q e).address)) (packets_sorted p became (goes_within w few find j l p))

same_cond : {X : Type 0} (b : Bool) (x y : X) → y ≡ x → cond b x y ≡ x
same_cond true x y e = refl
same_cond false x y e = e

-- a sender that there is, related, over a link that is up
pub clear_sender : (w : World) (j : ℕ) (l : Local) (i : ℕ) → i < w.n → related (w.rel j i) ≡ true → l.up i ≡ true → sender_fault w j l i ≡ None
clear_sender w j l i hi tied up = same_cond (eqb i j) None _ (ap (option_map Router) (no_packet_fault w j l i hi tied up))

-- its own people
pub clear_people : (w : World) (i : ℕ) (l : Local) → sender_fault w i l i ≡ None
clear_people w i l = ap (λ b. cond b None (option_map Router (packet_fault w i l i))) (eq-eqb i i refl)

-- people send a packet
pub sending_made : (w : World) → w.n ≤ 64 → (find : Lookup) (i address : ℕ) (l : Local) → address < 2 ^ 32 → Made l (sending i address) (on_bytes w find i l (sending i address)) l (onward (forwarded w find i l (fresh address)))
sending_made w few find i address l short = packet_made w few find i i (fresh address) l (sending i address) (reads_alone (message_from i (packet (fresh address))) (record { has_bytes = refl; addressed = short })) short (clear_people w i l)

-- a line of its own turns
pub turning_made : (w : World) → w.n ≤ 64 → (find : Lookup) (i j : ℕ) (up : Bool) (l : Local) → j < w.n → related (w.rel i j) ≡ true → ((b k : ℕ) → ProperSaying w k i b ((after_turning w i j up l).advertised b k)) → Made l (turning j up) (on_bytes w find i l (turning j up)) (after_turning w i j up l) (λ k. updates (sent_on_turning w i j up l k))
turning_made w few find i j up l hj tied proper =
    let taken : Taken = record { holds = after_turning w i j up l; writes = update_messages (outbox_on_turning w i j up l) } in
    let m : Message = record { network = j; thing = meaning.turn j up } in
    let f = turning_fault w i j in
    box_made w find i l (turning j up) m taken (λ k. updates (sent_on_turning w i j up l k)) (reads_alone m (record { has_bytes = refl; addressed = tt })) (ap (λ o. taken_unless o taken) (own_line w i j ∙ ap (option_map Router) (no_turning_fault w i j hj tied))) (written_unless w i every (forgotten j up l) f l proper) (unless_sorted w few i every (forgotten j up l) f)
