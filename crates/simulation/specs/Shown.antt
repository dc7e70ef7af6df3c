-- What each network goes by in a state, and why a step is not played in words. Assumes nothing.
use Rattle.std.specs.Prelude.{ℕ, cond, ◌&&◌, List, codes, nat_lt}
use Rattle.model.specs.Selection.{Choice, nothing}
use Rattle.model.specs.Local.{choice}
use Rattle.model.specs.Run.{State}
use Rattle.model.specs.World.{World}
use Rattle.simulation.specs.declared.cause.Cause.{Cause}
use Rattle.simulation.specs.declared.cause.Cause.TheVariants.{NoSuchNetwork, NothingInFlight, NoLink, TooMany}
use Rattle.simulation.specs.declared.cause.Refusal.{Refusal}
use Rattle.simulation.specs.declared.cause.Refusal.TheVariants.{Fault, Memory}

-- what network i goes by for block b; nothing where there is no such network or block
abbrev pub goes_by : World → State → ℕ → ℕ → Choice
goes_by w s i b = cond (nat_lt i w.n && nat_lt b w.blocks) (choice w i (s.locals i) b) nothing

-- the number of the fault
abbrev pub number : Cause → ℕ
number NoSuchNetwork = 2
number NothingInFlight = 6
number NoLink = 10
number TooMany = 11

abbrev pub cause_words : Cause → List ℕ
cause_words NoSuchNetwork = codes "a network not below n"
cause_words NothingInFlight = codes "nothing is in flight"
cause_words NoLink = codes "no line between these networks"
cause_words TooMany = codes "more updates in flight than there is room for"

abbrev pub refusal_words : Refusal → List ℕ
refusal_words (Fault cause) = cause_words cause
refusal_words Memory = codes "out of memory"
