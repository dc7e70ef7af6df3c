-- Of the faults of a thing the one with the lowest number is told. Assumes nothing.
use Rattle.std.proofs.Common.{◌≡◌, ℕ, true, List, Some, Ok, Err, Result, refl, subst}
use Rattle.model.specs.Checks.{IsLowest, ascends_from, first_fault}
use Rattle.model.proofs.Checks.{first_is_lowest}
use Rattle.relations.specs.declared.sound.Relations.{Relations}
use Rattle.ties.specs.declared.refusal.Cause.{Cause}
use Rattle.ties.specs.declared.refusal.Place.{Place}
use Rattle.ties.specs.declared.refusal.Place.TheVariants.{Head, Tie, End}
use Rattle.ties.specs.declared.refusal.Refusal.{Refusal}
use Rattle.ties.specs.declared.refusal.Refusal.TheVariants.{Fault, Cycle, Memory}
use Rattle.ties.specs.Faults.{Faultless, FirstFault, checks_at}
use Rattle.ties.specs.Number.{number}
use Rattle.ties.specs.Outcome.{Clear, LowestTold, Read}

module _ (most : ℕ) (bs : List ℕ) where
  ascends : (place : Place) → ascends_from number 0 (checks_at most bs place) ≡ true
  ascends Head = refl
  ascends (Tie k) = refl
  ascends End = refl

  lowest : (place : Place) → IsLowest number (checks_at most bs place) (first_fault (checks_at most bs place))
  lowest place = first_is_lowest number 0 (checks_at most bs place) (ascends place)

  pub clear : Faultless most bs → Clear most bs
  clear f Head there = subst (IsLowest number (checks_at most bs Head)) f.head (lowest Head)
  clear f (Tie k) there = subst (IsLowest number (checks_at most bs (Tie k))) (f.each k there) (lowest (Tie k))
  clear f End there = subst (IsLowest number (checks_at most bs End)) f.end (lowest End)

  first : (place : Place) (c : Cause) → FirstFault most bs place c → IsLowest number (checks_at most bs place) (Some c)
  first Head c f = subst (IsLowest number (checks_at most bs Head)) f (lowest Head)
  first (Tie k) c f = subst (IsLowest number (checks_at most bs (Tie k))) f.1.2 (lowest (Tie k))
  first End c f = subst (IsLowest number (checks_at most bs End)) f.2 (lowest End)

  pub lowest_told : (r : Result Relations Refusal) → Read most bs r → LowestTold most bs r
  lowest_told (Ok r) read = clear read.faultless
  lowest_told (Err (Fault f)) read = first f.place f.cause read
  lowest_told (Err (Cycle ring)) read = clear read.0
  lowest_told (Err Memory) read = tt
