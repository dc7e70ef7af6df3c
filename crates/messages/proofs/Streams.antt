-- A stream of messages is read to its end or to its first fault. Assumes nothing.
use Rattle.std.proofs.Common.{◌≡◌, ℕ, zero, suc, ◌+◌, ◌<◌, ◌≤◌, List, [], ◌∷◌, ◌++◌, length, get_or, drop, None, Ok, Err, Result, sym, refl, ap, subst, ◌∙◌, append_assoc, arith}
use Rattle.std.proofs.lemmas.List.{get_or-drop}
use Rattle.messages.specs.declared.cause.Cause.{Cause}
use Rattle.messages.specs.Meaning.{Message}
use Rattle.messages.specs.Places.{extent}
use Rattle.messages.specs.Reading.{Stream, ended, before, onward, message_at, messages_within, messages_in}
use Rattle.messages.specs.Encoding.{bytes_of, stream_of}
use Rattle.messages.specs.Laws.{Bytes, ReadOn, StreamReads, StreamWrites}
use Rattle.messages.proofs.Back.{was_read, read_writes, takes_bytes}
use Rattle.messages.proofs.Encoded.{written_reads}

-- what follows depends only on what is left
onward_same : (f g : List ℕ → Stream) (r : Result (Message × List ℕ) Cause) → ((m : Message) (rest : List ℕ) → r ≡ Ok (m, rest) → f rest ≡ g rest) → onward f r ≡ onward g r
onward_same f g (Ok read) same = ap (before (read.0 ∷ [])) (same read.0 read.1 refl)
onward_same f g (Err cause) same = refl

-- as many looks as there are bytes are enough
enough : (most more : ℕ) (bs : List ℕ) → length bs ≤ most → length bs ≤ more → messages_within most bs ≡ messages_within more bs
unfolding messages_within
enough zero zero bs h k = refl
enough zero (suc more) [] h k = refl
enough zero (suc more) (b ∷ bs) h k = absurd (omega arith)
enough (suc most) zero [] h k = refl
enough (suc most) zero (b ∷ bs) h k = absurd (omega arith)
enough (suc most) (suc more) [] h k = refl
enough (suc most) (suc more) (b ∷ bs) h k = onward_same (messages_within most) (messages_within more) (message_at (b ∷ bs)) (λ m rest e. let shorter = takes_bytes (b ∷ bs) m rest e in enough most more rest (omega arith) (omega arith))

none_left : messages_in [] ≡ ended
unfolding messages_within
none_left = refl

some_left : (bs : List ℕ) → 0 < length bs → messages_in bs ≡ onward messages_in (message_at bs)
unfolding messages_within
some_left [] h = absurd (omega arith)
some_left (b ∷ bs) h = onward_same (messages_within (length bs)) messages_in (message_at (b ∷ bs)) (λ m rest e. let shorter = takes_bytes (b ∷ bs) m rest e in enough (length bs) (length rest) rest (omega arith) (omega arith))

pub read_on : ReadOn
read_on = record { none = none_left; some = some_left }

pub stream_reads : StreamReads
stream_reads [] rest written = refl
stream_reads (m ∷ ms) rest written =
    let further = stream_of ms ++ rest in
    let first = written_reads m further written.0 in
    let shorter = takes_bytes (bytes_of m ++ further) m further first in
    ap messages_in (append_assoc (bytes_of m) (stream_of ms) rest) ∙
    some_left (bytes_of m ++ further) (omega arith) ∙
    ap (onward messages_in) first ∙
    ap (before (m ∷ [])) (stream_reads ms rest written.1)

-- what is left of bytes is bytes
bytes_left : (bs : List ℕ) (k : ℕ) (rest : List ℕ) → Bytes bs → drop k bs ≡ rest → Bytes rest
bytes_left bs k rest small left i = subst (λ x. x < 256) (sym (get_or-drop k bs i 0) ∙ (λ j. get_or (left j) i 0)) (small (k + i))

-- where the rest of a stream is written as it was read, so is the whole
writes_on : (further : List ℕ → Stream) (bs : List ℕ) (r : Result (Message × List ℕ) Cause) → message_at bs ≡ r → Bytes bs → ((rest : List ℕ) → length rest < length bs → Bytes rest → (further rest).fault ≡ None → rest ≡ stream_of (further rest).messages) → (onward further r).fault ≡ None → bs ≡ stream_of (onward further r).messages
writes_on further bs (Err cause) is small rest_writes e = cc
writes_on further bs (Ok read) is small rest_writes e =
    let left = (was_read bs read.0 read.1 is).left in
    read_writes bs read.0 read.1 small is ∙
    ap (λ l. bytes_of read.0 ++ l) (rest_writes read.1 (takes_bytes bs read.0 read.1 is) (bytes_left bs (extent bs) read.1 small left) e)

writes_within : (most : ℕ) (bs : List ℕ) → length bs ≤ most → Bytes bs → (messages_within most bs).fault ≡ None → bs ≡ stream_of (messages_within most bs).messages
unfolding messages_within
writes_within zero [] h small e = refl
writes_within zero (b ∷ bs) h small e = absurd (omega arith)
writes_within (suc most) [] h small e = refl
writes_within (suc most) (b ∷ bs) h small e = writes_on (messages_within most) (b ∷ bs) (message_at (b ∷ bs)) refl small (λ rest shorter small' e'. writes_within most rest (omega arith) small' e') e

pub stream_writes : StreamWrites
stream_writes bs small e = writes_within (length bs) bs (omega arith) small e
