-- The number of each fault of a block file. Assumes nothing.
use Rattle.std.specs.Prelude.{ℕ}
use Rattle.blocks.specs.declared.refusal.Cause.{Cause}
use Rattle.blocks.specs.declared.refusal.Cause.TheVariants.{UnknownKind, Cut, Surplus, NoSuchNetwork, NotRising, Turned, TooMany, Overlap, TooManyRehearsed}

abbrev pub number : Cause → ℕ
number UnknownKind = 1
number Cut = 1
number Surplus = 1
number NoSuchNetwork = 2
number NotRising = 3
number Turned = 3
number TooMany = 3
number Overlap = 4
number TooManyRehearsed = 11
