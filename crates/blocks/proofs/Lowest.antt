-- Of the faults of a thing the one with the lowest number is told. Assumes nothing.
use Rattle.std.proofs.Common.{◌≡◌, ℕ, true, List, Some, Ok, Err, Result, refl, subst}
use Rattle.model.specs.Checks.{IsLowest, ascends_from, first_fault}
use Rattle.model.proofs.Checks.{first_is_lowest}
use Rattle.blocks.specs.declared.block_list.BlockList.{BlockList}
use Rattle.blocks.specs.declared.refusal.Cause.{Cause}
use Rattle.blocks.specs.declared.refusal.Place.{Place}
use Rattle.blocks.specs.declared.refusal.Place.TheVariants.{Head, Block, End}
use Rattle.blocks.specs.declared.refusal.Refusal.{Refusal}
use Rattle.blocks.specs.declared.refusal.Refusal.TheVariants.{Fault, Memory}
use Rattle.blocks.specs.Faults.{Faultless, FirstFault, checks_at}
use Rattle.blocks.specs.Number.{number}
use Rattle.blocks.specs.Outcome.{Clear, LowestTold, Read}

module _ (n most : ℕ) (bs : List ℕ) where
  ascends : (place : Place) → ascends_from number 0 (checks_at n most bs place) ≡ true
  ascends Head = refl
  ascends (Block k) = refl
  ascends End = refl

  lowest : (place : Place) → IsLowest number (checks_at n most bs place) (first_fault (checks_at n most bs place))
  lowest place = first_is_lowest number 0 (checks_at n most bs place) (ascends place)

  pub clear : Faultless n most bs → Clear n most bs
  clear f Head there = subst (IsLowest number (checks_at n most bs Head)) f.head (lowest Head)
  clear f (Block k) there = subst (IsLowest number (checks_at n most bs (Block k))) (f.each k there) (lowest (Block k))
  clear f End there = subst (IsLowest number (checks_at n most bs End)) f.end (lowest End)

  first : (place : Place) (c : Cause) → FirstFault n most bs place c → IsLowest number (checks_at n most bs place) (Some c)
  first Head c f = subst (IsLowest number (checks_at n most bs Head)) f (lowest Head)
  first (Block k) c f = subst (IsLowest number (checks_at n most bs (Block k))) f.1.2 (lowest (Block k))
  first End c f = subst (IsLowest number (checks_at n most bs End)) f.2 (lowest End)

  pub lowest_told : (r : Result BlockList Refusal) → Read n most bs r → LowestTold n most bs r
  lowest_told (Ok r) read = clear read.faultless
  lowest_told (Err (Fault f)) read = first f.place f.cause read
  lowest_told (Err Memory) read = tt
