-- What may be wrong with a line, in the order in which it is told. Assumes nothing.
use Rattle.std.specs.Prelude.{ℕ, Bool, true, false, cond, not, ◌||◌, ◌&&◌, List, [], ◌∷◌, is_none, is_some, Some, None, codes, Option, nat_le, slice_get}
use Rattle.std.specs.List.{list_all}
use Rattle.std.specs.Str.{bytes_eq}
use Rattle.model.specs.Checks.{Checks}
use Rattle.script.specs.declared.cause.Cause.{Cause}
use Rattle.script.specs.declared.cause.Cause.TheVariants.{BadByte, UnknownWord, MissingWord, SurplusWord, NotANumber, NotAnAddress, NoSuchNetwork, NoSuchBlock}
use Rattle.script.specs.declared.command.Limits.{Limits}
use Rattle.script.specs.Addresses.{address_of}
use Rattle.script.specs.Digits.{value}
use Rattle.script.specs.Parts.{content, is_blank, words}

-- what a line asks for, by its first word
pub data Verb : Type 0 where
  turn : Verb
  hear : Verb
  send : Verb
  show : Verb
  rest : Verb

abbrev pub verb : List ℕ → Option Verb
verb w =
    cond (bytes_eq w (codes "turn")) (Some turn)
    (cond (bytes_eq w (codes "hear")) (Some hear)
    (cond (bytes_eq w (codes "send")) (Some send)
    (cond (bytes_eq w (codes "show")) (Some show)
    (cond (bytes_eq w (codes "rest")) (Some rest) None))))

-- a link is up, or not
abbrev pub standing : List ℕ → Option Bool
standing w = cond (bytes_eq w (codes "up")) (Some true) (cond (bytes_eq w (codes "down")) (Some false) None)

-- a number that is not below a limit
abbrev pub reaches : ℕ → Option ℕ → Bool
reaches limit None = false
reaches limit (Some v) = nat_le limit v

-- of a word that may be there: it is there, and is no number; a number not below a limit; no address; neither `up` nor
-- `down`
abbrev pub no_number : Option (List ℕ) → Bool
no_number None = false
no_number (Some w) = is_none (value w)

abbrev pub beyond : ℕ → Option (List ℕ) → Bool
beyond limit None = false
beyond limit (Some w) = reaches limit (value w)

abbrev pub no_address : Option (List ℕ) → Bool
no_address None = false
no_address (Some w) = is_none (address_of w)

abbrev pub no_standing : Option (List ℕ) → Bool
no_standing None = false
no_standing (Some w) = is_none (standing w)

-- of the numbers of two networks of n
abbrev pub pair_checks : ℕ → Option (List ℕ) → Option (List ℕ) → Checks Cause
pair_checks n first second =
    (NotANumber, no_number first || no_number second) ∷
    (NoSuchNetwork, beyond n first || beyond n second) ∷
    []

-- of the words after `turn`, among n networks
abbrev pub turn_checks : ℕ → List (List ℕ) → Checks Cause
turn_checks n ws =
    (UnknownWord, no_standing (slice_get ws 2)) ∷
    (MissingWord, is_none (slice_get ws 2)) ∷
    (SurplusWord, is_some (slice_get ws 3)) ∷
    pair_checks n (slice_get ws 0) (slice_get ws 1)

-- of the words after the first
abbrev pub verb_checks : Limits → Verb → List (List ℕ) → Checks Cause
verb_checks limits turn ws = turn_checks limits.networks ws
verb_checks limits hear ws =
    (MissingWord, is_none (slice_get ws 1)) ∷
    (SurplusWord, is_some (slice_get ws 2)) ∷
    pair_checks limits.networks (slice_get ws 0) (slice_get ws 1)
verb_checks limits send ws =
    (MissingWord, is_none (slice_get ws 1)) ∷
    (SurplusWord, is_some (slice_get ws 2)) ∷
    (NotANumber, no_number (slice_get ws 0)) ∷
    (NotAnAddress, no_address (slice_get ws 1)) ∷
    (NoSuchNetwork, beyond limits.networks (slice_get ws 0)) ∷
    []
verb_checks limits show ws =
    (MissingWord, is_none (slice_get ws 0)) ∷
    (SurplusWord, is_some (slice_get ws 1)) ∷
    (NotANumber, no_number (slice_get ws 0)) ∷
    (NoSuchBlock, beyond limits.blocks (slice_get ws 0)) ∷
    []
verb_checks limits rest ws = (SurplusWord, is_some (slice_get ws 0)) ∷ []

-- a first word that says nothing; of the others nothing is said
abbrev pub unknown : Checks Cause
unknown = (UnknownWord, true) ∷ []

abbrev pub named_checks : Limits → Option Verb → List (List ℕ) → Checks Cause
named_checks limits None ws = unknown
named_checks limits (Some v) ws = verb_checks limits v ws

-- of the words of a line; with none, nothing is wrong
abbrev pub words_checks : Limits → List (List ℕ) → Checks Cause
words_checks limits [] = []
words_checks limits (w ∷ ws) = named_checks limits (verb w) ws

-- blank or printable
abbrev pub is_plain : ℕ → Bool
is_plain b = is_blank b || (nat_le 33 b && nat_le b 126)

abbrev pub plain : List ℕ → Bool
plain bs = list_all is_plain bs

-- of a line
abbrev pub line_checks : Limits → List ℕ → Checks Cause
line_checks limits l = (BadByte, not (plain (content l))) ∷ words_checks limits (words (content l))
