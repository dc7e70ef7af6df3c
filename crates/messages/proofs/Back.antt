-- What is read writes back as the same bytes, and takes some. Assumes nothing.
use Rattle.std.proofs.Common.{◌≡◌, ℕ, List, ◌++◌, length, drop, Some, None, Ok, Option, sym, refl, ap, subst, ◌∙◌, arith, length-drop}
use Rattle.messages.specs.declared.cause.Cause.{Cause}
use Rattle.messages.specs.Meaning.{Message}
use Rattle.messages.specs.Places.{kind, path_length, extent}
use Rattle.messages.specs.Faults.{fault}
use Rattle.messages.specs.Reading.{message_in, answer, message_at}
use Rattle.messages.specs.Encoding.{bytes_of}
use Rattle.messages.specs.Laws.{Bytes, Written, ReadWrites, ReadHasBytes, TakesBytes}
use Rattle.messages.proofs.Decoded.{sound, extent_least, back, size_is, read_written}

-- what it means that a message is read
pub record Read (bs : List ℕ) (m : Message) (rest : List ℕ) : Type 0 where
  pub clean : fault bs ≡ None
  pub says : message_in bs ≡ m
  pub left : drop (extent bs) bs ≡ rest

given : (t : Option Cause) (bs : List ℕ) (m : Message) (rest : List ℕ) → t ≡ fault bs → answer t bs ≡ Ok (m, rest) → Read bs m rest
given None bs m rest t e =
    let pair : ◌≡◌ {A = Message × List ℕ} (message_in bs, drop (extent bs) bs) (m, rest) = cc in
    record { clean = sym t; says = ap (λ p. p.0) pair; left = ap (λ p. p.1) pair }
given (Some cause) bs m rest t e = cc

pub was_read : (bs : List ℕ) (m : Message) (rest : List ℕ) → message_at bs ≡ Ok (m, rest) → Read bs m rest
was_read bs m rest e = given (fault bs) bs m rest refl e

pub read_writes : ReadWrites
read_writes bs m rest small e =
    let r = was_read bs m rest e in
    back bs small (sound bs r.clean) ∙ (λ i. bytes_of (r.says i) ++ r.left i)

pub read_has_bytes : ReadHasBytes
read_has_bytes bs m rest small e =
    let r = was_read bs m rest e in
    subst Written r.says (read_written bs small (sound bs r.clean))

pub takes_bytes : TakesBytes
takes_bytes bs m rest e =
    let r = was_read bs m rest e in
    omega (arith, (sound bs r.clean).whole, extent_least (kind bs) (path_length bs), length-drop (extent bs) bs, ap length r.left)

-- the same by what was read, and what stands behind its bytes
pub read_is : (bs : List ℕ) (m : Message) (rest : List ℕ) → Bytes bs → fault bs ≡ None → m ≡ message_in bs → rest ≡ drop (length (bytes_of m)) bs → message_at bs ≡ Ok (m, rest)
read_is bs m rest small e says left =
    let reach : length (bytes_of m) ≡ extent bs = ap (λ m. length (bytes_of m)) says ∙ size_is bs small (sound bs e) in
    let all : rest ≡ drop (extent bs) bs = left ∙ ap (λ n. drop n bs) reach in
    ap (λ t. answer t bs) e ∙ (λ i. Ok (sym says i, sym all i))
