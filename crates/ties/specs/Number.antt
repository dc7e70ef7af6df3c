-- The number of each fault of a ties file. Assumes nothing.
use Rattle.std.specs.Prelude.{ℕ}
use Rattle.ties.specs.declared.refusal.Cause.{Cause}
use Rattle.ties.specs.declared.refusal.Cause.TheVariants.{UnknownKind, Cut, Surplus, NoSuchNetwork, BadCount, NotRising, SamePair, PeersTurned, Itself, TooMany}

abbrev pub number : Cause → ℕ
number UnknownKind = 1
number Cut = 1
number Surplus = 1
number NoSuchNetwork = 2
number BadCount = 2
number NotRising = 3
number SamePair = 3
number PeersTurned = 3
number Itself = 3
number TooMany = 11

-- that of a ring of customers
abbrev pub ring_number : ℕ
ring_number = 5
