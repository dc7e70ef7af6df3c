-- The words in which a refusal is told. Assumes nothing.
use Rattle.std.specs.Prelude.{ℕ, List, ◌++◌, codes, decimal}
use Rattle.text.specs.Faults.{fault_words}
use Rattle.blocks.specs.Number.{number}
use Rattle.blocks.specs.declared.refusal.Cause.{Cause}
use Rattle.blocks.specs.declared.refusal.Cause.TheVariants.{UnknownKind, Cut, Surplus, NoSuchNetwork, NotRising, Turned, TooMany, Overlap, TooManyRehearsed}
use Rattle.blocks.specs.declared.refusal.Place.{Place}
use Rattle.blocks.specs.declared.refusal.Place.TheVariants.{Head, Block, End}
use Rattle.blocks.specs.declared.refusal.Refusal.{Refusal}
use Rattle.blocks.specs.declared.refusal.Refusal.TheVariants.{Fault, Memory}

abbrev pub cause_words : Cause → List ℕ
cause_words UnknownKind = codes "unknown kind"
cause_words Cut = codes "bad length: cut short"
cause_words Surplus = codes "bad length: bytes past the end"
cause_words NoSuchNetwork = codes "a network not below n"
cause_words NotRising = codes "blocks not in rising order"
cause_words Turned = codes "first above last"
cause_words TooMany = codes "more than 256 blocks"
cause_words Overlap = codes "blocks that overlap"
cause_words TooManyRehearsed = codes "more blocks than can be rehearsed"

abbrev pub place_words : Place → List ℕ
place_words Head = codes "head"
place_words (Block k) = codes "block " ++ decimal k
place_words End = codes "end"

-- the number, the place and the cause
abbrev pub words : Refusal → List ℕ
words (Fault f) = fault_words (number f.cause) (place_words f.place) (cause_words f.cause)
words Memory = codes "out of memory"
