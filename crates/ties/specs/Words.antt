-- The words in which a refusal is told. Assumes nothing.
use Rattle.std.specs.Prelude.{ℕ, List, ◌++◌, vec_items, codes, decimal}
use Rattle.text.specs.Faults.{fault_words}
use Rattle.text.specs.Row.{spelled}
use Rattle.ties.specs.Number.{number, ring_number}
use Rattle.ties.specs.declared.refusal.Cause.{Cause}
use Rattle.ties.specs.declared.refusal.Cause.TheVariants.{UnknownKind, Cut, Surplus, NoSuchNetwork, BadCount, NotRising, SamePair, PeersTurned, Itself, TooMany}
use Rattle.ties.specs.declared.refusal.Place.{Place}
use Rattle.ties.specs.declared.refusal.Place.TheVariants.{Head, Tie, End}
use Rattle.ties.specs.declared.refusal.Refusal.{Refusal}
use Rattle.ties.specs.declared.refusal.Refusal.TheVariants.{Fault, Cycle, Memory}

abbrev pub cause_words : Cause → List ℕ
cause_words UnknownKind = codes "unknown kind"
cause_words Cut = codes "bad length: cut short"
cause_words Surplus = codes "bad length: bytes past the end"
cause_words NoSuchNetwork = codes "a network not below n"
cause_words BadCount = codes "n of 0 or above 64"
cause_words NotRising = codes "ties not in rising order"
cause_words SamePair = codes "two ties of one pair"
cause_words PeersTurned = codes "peers with the higher number first"
cause_words Itself = codes "a network tied to itself"
cause_words TooMany = codes "more networks than can be rehearsed"

abbrev pub place_words : Place → List ℕ
place_words Head = codes "head"
place_words (Tie k) = codes "tie " ++ decimal k
place_words End = codes "end"

-- a cycle is the villages' ring of customers
abbrev pub ring_words : List ℕ → List ℕ
ring_words ring = codes "a ring of customers: " ++ spelled ring

-- the number, the place and the cause
abbrev pub words : Refusal → List ℕ
words (Fault f) = fault_words (number f.cause) (place_words f.place) (cause_words f.cause)
words (Cycle ring) = fault_words ring_number (place_words End) (ring_words (vec_items ring))
words Memory = codes "out of memory"
