-- A message that is answered at the front of some bytes is answered at the front of all that come. Assumes nothing.
use Rattle.std.proofs.Common.{◌≡◌, ℕ, ◌-◌, ◌<◌, ◌≤◌, Bool, true, false, List, [], ◌∷◌, ◌++◌, length, drop, None, Some, Option, Ok, Err, Result, OnErr, sym, refl, ap, subst, ◌∙◌, append_assoc, arith, length-append, append-nil}
use Rattle.std.proofs.Math.Seq.{drop-append_seam}
use Rattle.std.proofs.lemmas.Bool.Decides.{nat_tests}
use Rattle.blocks.specs.declared.blocks.Blocks.{Blocks}
use Rattle.blocks.specs.Ranges.{block_at}
use Rattle.blocks.specs.Shown.{firsts_of, homes_of, lasts_of, lent_firsts, lent_lasts}
use Rattle.forwarding.specs.Forwarding.{below, lookup}
use Rattle.links.specs.Held.{blocks_of, held, world_for}
use Rattle.selection.specs.Worlds.{world_by}
use Rattle.selection.specs.declared.world.World.{World as Lent}
use Rattle.model.specs.Local.{Local}
use Rattle.model.specs.Packets.{Lookup}
use Rattle.model.specs.World.{World}
use Rattle.messages.specs.declared.cause.Cause.{Cause}
use Rattle.messages.specs.declared.cause.Cause.TheVariants.{Cut}
use Rattle.messages.specs.Encoding.{bytes_of}
use Rattle.messages.specs.Faults.{fault}
use Rattle.messages.specs.Laws.{Bytes}
use Rattle.messages.specs.Meaning.{Message}
use Rattle.messages.specs.Places.{kind, path_length, extent_by}
use Rattle.messages.specs.Reading.{Stream, answer, before, message_at, messages_in, onward}
use Rattle.messages.proofs.Back.{read_writes, read_has_bytes, takes_bytes}
use Rattle.messages.proofs.Encoded.{written_reads}
use Rattle.messages.proofs.Streams.{read_on}
use Rattle.speaker.specs.Answers.{Answered, ruled}
use Rattle.speaker.specs.Bytes.{measured, on_bytes, on_reading}
use Rattle.speaker.specs.Rule.{Taken, on_message}
use Rattle.speaker.specs.declared.fault.Fault.{Fault}
use Rattle.speaker.specs.declared.refusal.Refusal.{Refusal}
use Rattle.speaker.specs.declared.refusal.Refusal.TheVariants.{Fault as Faulty, Memory}
use Rattle.village_box.specs.Due.{due, fault_of, held_by, holds_after, lookup_of, number_in, refusals, stopping, world_of, written, written_on}
use Rattle.village_box.specs.Taking.{Passes, Took}
use Rattle.village_box.specs.declared.village.Village.{Village}

-- whatever comes behind, the message at the front is the same
stays : (bs : List ℕ) (m : Message) (rest more : List ℕ) → Bytes bs → message_at bs ≡ Ok (m, rest) → message_at (bs ++ more) ≡ Ok (m, rest ++ more)
stays bs m rest more small e =
    ap (λ xs. message_at (xs ++ more)) (read_writes bs m rest small e) ∙
    ap message_at (append_assoc (bytes_of m) rest more) ∙
    written_reads m (rest ++ more) (read_has_bytes bs m rest small e)

-- a stream goes on behind it
goes_on : (bs : List ℕ) (m : Message) (rest more : List ℕ) → Bytes bs → message_at bs ≡ Ok (m, rest) → messages_in (bs ++ more) ≡ before (m ∷ []) (messages_in (rest ++ more))
goes_on bs m rest more small e =
    let shorter = takes_bytes bs m rest e in
    read_on.some (bs ++ more) (omega (arith, shorter, length-append bs more)) ∙
    ap (onward messages_in) (stays bs m rest more small e)

abbrev due_by : World → Lookup → ℕ → Local → Bool → List ℕ → Stream → List ℕ × List Fault × Option Cause
due_by w at i s g told stream = (told ++ written w at i s stream.messages, stopping g (refusals w at i s stream.messages), stream.fault)

-- what is told in all, where a message is at the front of a stream
told_first : (w : World) (at : Lookup) (i : ℕ) (s : Local) (g : Bool) (m : Message) (first told : List ℕ) (stream : Stream) → ((faults : List Fault) → stopping g (fault_of (on_message w at i s m) ++ faults) ≡ stopping g faults) → due_by w at i (holds_after s (on_message w at i s m)) g (first ++ (told ++ written_on (on_message w at i s m))) stream ≡ due_by w at i s g (first ++ told) (before (m ∷ []) stream)
unfolding written refusals
told_first w at i s g m first told stream heard =
    let x = written_on (on_message w at i s m) in
    let y = written w at i (holds_after s (on_message w at i s m)) stream.messages in
    let same : (first ++ (told ++ x)) ++ y ≡ (first ++ told) ++ (x ++ y) = ap (λ l. l ++ y) (sym (append_assoc first told x)) ∙ append_assoc (first ++ told) x y in
    let found = refusals w at i (holds_after s (on_message w at i s m)) stream.messages in
    λ j. (same j, sym (heard found) j, stream.fault)

-- what is left behind the message
behind_it : (bs : List ℕ) (m : Message) (rest : List ℕ) → Bytes bs → message_at bs ≡ Ok (m, rest) → drop (length bs - length rest) bs ≡ rest
behind_it bs m rest small e =
    let is = read_writes bs m rest small e in
    ap (λ k. drop k bs) (omega (arith, ap length is, length-append (bytes_of m) rest)) ∙
    ap (drop (length (bytes_of m))) is ∙
    drop-append_seam (bytes_of m) rest

-- what is cut short is short
extent_most : (k l : ℕ) → extent_by k l ≤ 69
extent_most k l = grind (arith, nat_tests)

cut_short : (bs : List ℕ) (t : Option Cause) → t ≡ fault bs → answer t bs ≡ Err Cut → length bs < 69
cut_short bs None t e = cc
cut_short bs (Some cause) t e =
    let is : fault bs ≡ Some Cut = cc in
    let most = extent_most (kind bs) (path_length bs) in
    grind (arith, nat_tests)

-- where the village sees the same, and a message was answered
passes : (g : Bool) (v now : Village) (told after bs : List ℕ) (m : Message) (rest : List ℕ) (n : ℕ) → world_of now ≡ world_of v → lookup_of now ≡ lookup_of v → number_in now ≡ number_in v → Bytes bs → message_at bs ≡ Ok (m, rest) → n ≡ length bs - length rest → after ≡ told ++ written_on (on_message (world_of v) (lookup_of v) (number_in v) (held_by v) m) → held_by now ≡ holds_after (held_by v) (on_message (world_of v) (lookup_of v) (number_in v) (held_by v) m) → ((faults : List Fault) → stopping g (fault_of (on_message (world_of v) (lookup_of v) (number_in v) (held_by v) m) ++ faults) ≡ stopping g faults) → Passes g v told now after bs n
passes g v now told after bs m rest n we ae ie small e size writes holds heard = (
  omega arith,
  λ first more.
      (λ j. due (we j) (ae j) (ie j) (holds j) g (first ++ writes j) ((ap (λ k. drop k bs) size ∙ behind_it bs m rest small e) j ++ more)) ∙
      told_first (world_of v) (lookup_of v) (number_in v) (held_by v) g m first told (messages_in (rest ++ more)) heard ∙
      ap (due_by (world_of v) (lookup_of v) (number_in v) (held_by v) g (first ++ told)) (sym (goes_on bs m rest more small e)),
)

-- nothing was answered
none_passes : (g : Bool) (v now : Village) (told after bs : List ℕ) → world_of now ≡ world_of v → lookup_of now ≡ lookup_of v → number_in now ≡ number_in v → after ≡ told → held_by now ≡ held_by v → Passes g v told now after bs 0
none_passes g v now told after bs we ae ie writes holds =
    (omega arith, λ first more. λ j. due (we j) (ae j) (ie j) (holds j) g (first ++ writes j) (bs ++ more))

answered_message : (v now : Village) (told after bs : List ℕ) (m : Message) (rest : List ℕ) (t : Result Taken Fault) (r : Result ℕ Refusal) → world_of now ≡ world_of v → lookup_of now ≡ lookup_of v → number_in now ≡ number_in v → Bytes bs → message_at bs ≡ Ok (m, rest) → on_message (world_of v) (lookup_of v) (number_in v) (held_by v) m ≡ t → Answered (measured (length bs - length rest) t) (held_by now) told after r → OnErr r ((held_by now ≡ held_by v) × (after ≡ told)) → Took v told now after bs r
answered_message v now told after bs m rest (Ok taken) (Ok n) we ae ie small e is a kept =
    let size = a.0 in
    let writes = a.2 ∙ ap (λ t. told ++ written_on t) (sym is) in
    let holds = a.1 ∙ ap (holds_after (held_by v)) (sym is) in
    let by : (g : Bool) → Passes g v told now after bs n = λ g. passes g v now told after bs m rest n we ae ie small e size writes holds (λ faults. ap (λ t. stopping g (fault_of t ++ faults)) is) in
    (by true, by false)
answered_message v now told after bs m rest (Ok taken) (Err (Faulty f l)) we ae ie small e is a kept = absurd a
answered_message v now told after bs m rest (Ok taken) (Err Memory) we ae ie small e is a kept = tt
answered_message v now told after bs m rest (Err fault) (Ok n) we ae ie small e is a kept = absurd a
answered_message v now told after bs m rest (Err fault) (Err (Faulty f None)) we ae ie small e is a kept = cc
answered_message v now told after bs m rest (Err fault) (Err (Faulty f (Some n))) we ae ie small e is a kept =
    let size : n ≡ length bs - length rest = cc in
    passes true v now told after bs m rest n we ae ie small e size
    (kept.1 ∙ sym (append-nil told) ∙ ap (λ t. told ++ written_on t) (sym is)) (kept.0 ∙ ap (holds_after (held_by v)) (sym is)) (λ faults. refl)
answered_message v now told after bs m rest (Err fault) (Err Memory) we ae ie small e is a kept = tt

answered_reading : (v now : Village) (told after bs : List ℕ) (read : Result (Message × List ℕ) Cause) (r : Result ℕ Refusal) → world_of now ≡ world_of v → lookup_of now ≡ lookup_of v → number_in now ≡ number_in v → Bytes bs → message_at bs ≡ read → Answered (on_reading (world_of v) (lookup_of v) (number_in v) (held_by v) bs read) (held_by now) told after r → OnErr r ((held_by now ≡ held_by v) × (after ≡ told)) → Took v told now after bs r
answered_reading v now told after bs (Ok (m, rest)) r we ae ie small e a kept =
    answered_message v now told after bs m rest (on_message (world_of v) (lookup_of v) (number_in v) (held_by v) m) r we ae ie small e refl a kept
answered_reading v now told after bs (Err cause) (Ok n) we ae ie small e a kept = absurd a
answered_reading v now told after bs (Err cause) (Err (Faulty f None)) we ae ie small e a kept = (
  none_passes true v now told after bs we ae ie kept.1 kept.0,
  none_passes false v now told after bs we ae ie kept.1 kept.0,
  λ is. let cut : cause ≡ Cut = cc in cut_short bs (fault bs) refl (e ∙ ap Err cut),
)
answered_reading v now told after bs (Err cause) (Err (Faulty f (Some n))) we ae ie small e a kept = cc
answered_reading v now told after bs (Err cause) (Err Memory) we ae ie small e a kept = tt

-- as the box's answer says
pub took : (v now : Village) (told after bs : List ℕ) (r : Result ℕ Refusal) → world_of now ≡ world_of v → lookup_of now ≡ lookup_of v → number_in now ≡ number_in v → Bytes bs → Answered (on_bytes (world_of v) (lookup_of v) (number_in v) (held_by v) bs) (held_by now) told after r → OnErr r ((held_by now ≡ held_by v) × (after ≡ told)) → Took v told now after bs r
took v now told after bs r we ae ie small a kept = answered_reading v now told after bs (message_at bs) r we ae ie small refl a kept

on_err : {X E A B : Type 0} (r : Result X E) → (A → B) → OnErr r A → OnErr r B
on_err (Ok x) f h = tt
on_err (Err e) f h = f h

-- the same, by what of a village changes
pub took_by : (v now : Village) (told after bs : List ℕ) (r : Result ℕ Refusal) → now.relations ≡ v.relations → now.blocks ≡ v.blocks → blocks_of now.tables ≡ blocks_of v.tables → number_in now ≡ number_in v → Bytes bs → Answered (on_bytes (world_of v) (lookup_of v) (number_in v) (held_by v) bs) (held_by now) told after r → OnErr r ((now.router ≡ v.router) × (now.tables ≡ v.tables) × (after ≡ told)) → Took v told now after bs r
took_by v now told after bs r re be ce ie small a kept =
    let seen : world_of now ≡ world_of v = λ j. world_by (re j) (homes_of (be j)) (ce j) in
    let found : lookup_of now ≡ lookup_of v = λ j. λ address. below (ce j) (block_at (firsts_of (be j)) (lasts_of (be j)) address) in
    took v now told after bs r seen found ie small a (on_err r (λ k. ((λ j. held (k.0 j) (k.1 j)), k.2)) kept)

-- what all networks share, and the blocks, are lent to the router
pub lent_answered : (v : Village) (s : Local) (told after bs : List ℕ) (world : Lent) (lent : Blocks) (r : Result ℕ Refusal) → world.relations.now ≡ v.relations → world.homes.now ≡ homes_of v.blocks → lent_firsts lent ≡ firsts_of v.blocks → lent_lasts lent ≡ lasts_of v.blocks → Answered (ruled v.router world v.tables lent bs) s told after r → Answered (on_bytes (world_of v) (lookup_of v) (number_in v) (held_by v) bs) s told after r
lent_answered v s told after bs world lent r re he fe le a =
    let shared : ◌≡◌ {A = World} (world_for world v.tables) (world_of v) = λ j. world_by (re j) (he j) (blocks_of v.tables) in
    let lends : ◌≡◌ {A = Lookup} (lookup (blocks_of v.tables) lent) (lookup_of v) = λ j. λ address. below (blocks_of v.tables) (block_at (fe j) (le j) address) in
    subst {A = World × Lookup} (λ z. Answered (on_bytes z.0 z.1 (number_in v) (held_by v) bs) s told after r) (λ j. (shared j, lends j)) a
