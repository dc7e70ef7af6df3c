-- What a box writes in a run has bytes, and reads back. Assumes nothing.
use Rattle.std.proofs.Common.{◌≡◌, ℕ, ◌<◌, ◌^◌, Bool, true, List, [], ◌∷◌, length, map, Some, None, Ok, Option, sym, refl, ap, ◌∙◌, subst, append-nil}
use Rattle.std.specs.List.{AllByRecursion}
use Rattle.std.proofs.lemmas.Bool.{and_parts, and_from, cond-true, cond_both, lt-ltb, le-leb}
use Rattle.model.specs.Hearing.{unless}
use Rattle.model.specs.Local.{Local, Update, due, outbox, retold, sends, tells_now}
use Rattle.model.specs.Selection.{Said}
use Rattle.model.specs.Packets.{Packet, Forwarded, arrived, dropped, handed}
use Rattle.model.specs.Promise.{ProperSaying, ProperItem}
use Rattle.model.specs.Run.{Item, update, packet}
use Rattle.model.specs.declared.limits.TheConstants.{MOST_NETWORKS}
use Rattle.model.specs.World.{World}
use Rattle.model.specs.declared.fault.Fault.{Fault}
use Rattle.messages.specs.Encoding.{bytes_of, said_fits, stream_of, thing_bytes}
use Rattle.messages.specs.Laws.{Addressed, Written}
use Rattle.messages.proofs.Encoded.{written_reads}
use Rattle.messages.proofs.Streams.{stream_reads}
use Rattle.messages.specs.Meaning.{Message}
use Rattle.messages.specs.Meaning as meaning
use Rattle.messages.specs.Reading.{message_at, messages_in, messages_within}
use Rattle.model.proofs.Gathered.{gather_all}
use Rattle.speaker.specs.Rule.{packet_messages, update_messages}
use Rattle.carriage.specs.Laws.{item_bytes, message_from, read_from, thing_of}

-- a path that a network may hold has bytes
proper_fits : (w : World) (i j b : ℕ) (o : Said) → ProperSaying w i j b o → said_fits o ≡ true
proper_fits w i j b None h = refl
proper_fits w i j b (Some p) h = and_from _ _ (lt-ltb 0 (length p.networks) h.some) (le-leb (length p.networks) MOST_NETWORKS h.short)

all_map : {X Y : Type 0} (P : Y → Type 0) (f : X → Y) (xs : List X) → AllByRecursion (λ x. P (f x)) xs → AllByRecursion P (map f xs)
all_map P f [] h = tt
all_map P f (x ∷ xs) h = (h.0, all_map P f xs h.1)

abbrev told : ℕ × Update → Type 0
told x = Written (record { network = x.0; thing = meaning.update x.1 })

module _ (w : World) (i : ℕ) (these : ℕ → Bool) (s : Local) where
  written_outbox : ((b k : ℕ) → ProperSaying w k i b ((retold w i these s).advertised b k)) → AllByRecursion Written (update_messages (outbox w i these s))
  written_outbox proper =
      all_map Written _ (outbox w i these s) (gather_all _ _ w.blocks (λ b l. gather_all _ _ w.n (λ k h. cond_both (sends w i these s b k) _ [] (AllByRecursion told) (λ e. (here b k (and_parts (due w these s b k) _ e).0, tt)) (λ _. tt))))
    where
      here : (b k : ℕ) → due w these s b k ≡ true → told (k, record { block = b; says = tells_now w i s b k })
      here b k e = record {
        has_bytes = proper_fits w k i b (tells_now w i s b k) (subst (ProperSaying w k i b) (cond-true (due w these s b k) (tells_now w i s b k) (s.advertised b k) e) (proper b k));
        addressed = tt;
      }

  pub written_unless : (f : Option Fault) (r : Local) → ((b k : ℕ) → ProperSaying w k i b ((unless f r (retold w i these s)).advertised b k)) → AllByRecursion Written (update_messages (unless f [] (outbox w i these s)))
  written_unless (Some fault) r proper = tt
  written_unless None r proper = written_outbox proper

pub written_packets : (p : Packet) (became : Forwarded) → p.address < 2 ^ 32 → ((j : ℕ) (q : Packet) → became ≡ handed j q → q.address ≡ p.address) → AllByRecursion Written (packet_messages p became)
written_packets p arrived l h = (record { has_bytes = refl; addressed = l }, tt)
written_packets p (dropped why) l h = tt
written_packets p (handed j q) l h = (record { has_bytes = refl; addressed = subst (λ a. a < 2 ^ 32) (sym (h j q refl)) l }, tt)

-- an item in flight
pub written_item : (w : World) (i j : ℕ) (x : Item) → ProperItem w j i x → Addressed (thing_of x) → Written (message_from i x)
written_item w i j (update u) h a = record { has_bytes = proper_fits w j i u.block u.says h.1; addressed = a }
written_item w i j (packet p) h a = record { has_bytes = refl; addressed = a }

pub with_bytes : (m : Message) → Written m → bytes_of m ≡ m.network ∷ thing_bytes m.thing
with_bytes m h = cond-true _ _ _ h.has_bytes

pub reads_alone : (m : Message) → Written m → message_at (bytes_of m) ≡ Ok (m, [])
reads_alone m h = ap message_at (sym (append-nil (bytes_of m))) ∙ written_reads m [] h

pub item_reads : (i : ℕ) (x : Item) → Written (message_from i x) → message_at (i ∷ item_bytes x) ≡ read_from i x
item_reads i x h = ap message_at (sym (with_bytes (message_from i x) h)) ∙ reads_alone (message_from i x) h

-- what is written is read to its end
pub stream_alone : (ms : List Message) → AllByRecursion Written ms → messages_in (stream_of ms) ≡ record { messages = ms; fault = None }
unfolding messages_within
stream_alone ms h = ap messages_in (sym (append-nil (stream_of ms))) ∙ stream_reads ms [] h ∙ (λ z. record { messages = append-nil ms z; fault = None })
