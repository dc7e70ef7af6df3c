-- A village's box at work: how it starts, and what is known of it with each step.
use Rattle.std.specs.Prelude.{◌≡◌, ℕ, Bool, true, List, [], vec_items, Option}
use Rattle.std.specs.Io.KnownBytes.{IsAtEnd}
use Rattle.messages.specs.declared.cause.Cause.{Cause}
use Rattle.speaker.specs.declared.fault.Fault.{Fault}
use Rattle.village_box.specs.Inboxes.{Gained, Sound, left}
use Rattle.village_box.specs.Taking.{Follows, outcome}
use Rattle.village_box.specs.declared.running.Station.{Station}
use Rattle.village_box.specs.declared.village.Village.{Village}

-- a box of a village that has read nothing, and has nothing to write
abbrev pub Starts : Village → Bool → Station → Type 0
Starts village goes_on s =
    (s.village ≡ village) × (s.goes_on ≡ goes_on) × (vec_items s.out ≡ []) × Sound s.inbox × (left s.inbox ≡ [])

-- what was left and what the reader had is what is left now and what the reader has
abbrev pub GainsIn : Station → Option (List ℕ) → Station → Option (List ℕ) → Type 0
GainsIn old had new has = Gained (left old.inbox) had (left new.inbox) has

-- where it has ended, the reader is at its end, and nothing is left
abbrev pub EndsIn : Option (List ℕ) → Station → Bool → Type 0
EndsIn has s ended = ended ≡ true → IsAtEnd has × (left s.inbox ≡ [])

-- and nothing waits to be written
abbrev pub EndsWhole : Option (List ℕ) → Station → Bool → Type 0
EndsWhole has s ended = ended ≡ true → (vec_items s.out ≡ []) × (left s.inbox ≡ []) × IsAtEnd has

-- as much is told in all
abbrev pub FollowsOn : Station → Station → Type 0
FollowsOn old new =
    Follows old.goes_on
    old.village (vec_items old.out) (left old.inbox) new.village (vec_items new.out) (left new.inbox)

-- what the output has in the end, by a box that goes on or does not, where it has this now and the input still has that
abbrev pub outcome_of :
    Bool → Station → Option (List ℕ) → Option (List ℕ) → Option (List ℕ × List Fault × Option Cause)
outcome_of goes_on s contents has = outcome goes_on contents s.village (vec_items s.out) (left s.inbox) has
