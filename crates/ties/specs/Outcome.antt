-- What reading a ties file answers. Assumes nothing.
use Rattle.std.specs.Prelude.{◌≡◌, ℕ, ◌<◌, List, Ok, Err, Some, None, vec_items, Result}
use Rattle.model.specs.Checks.{IsLowest}
use Rattle.relations.specs.Table.{count, rel}
use Rattle.model.specs.Cycles.{First}
use Rattle.relations.specs.Sound.{networks as networks_of, relation as relation_of}
use Rattle.relations.specs.declared.matrix.Matrix.{Matrix}
use Rattle.relations.specs.declared.sound.Relations.{Relations}
use Rattle.ties.specs.declared.refusal.Cause.{Cause}
use Rattle.ties.specs.declared.refusal.Place.{Place}
use Rattle.ties.specs.declared.refusal.Place.TheVariants.{Head, Tie, End}
use Rattle.ties.specs.declared.refusal.Refusal.{Refusal}
use Rattle.ties.specs.declared.refusal.Refusal.TheVariants.{Fault, Cycle, Memory}
use Rattle.ties.specs.File.{networks, ties, after}
use Rattle.ties.specs.Encoding.{file_of}
use Rattle.ties.specs.Faults.{CleanTies, TieFault, Faultless, FirstFault, checks_at}
use Rattle.ties.specs.Number.{number}

abbrev pub AtPlace : List ℕ → Place → Cause → Type 0
AtPlace bs Head c = ⊥
AtPlace bs (Tie k) c = TieFault bs k c
AtPlace bs End c = ⊥

abbrev pub AtTie : List ℕ → Refusal → Type 0
AtTie bs (Fault f) = AtPlace bs f.place f.cause
AtTie bs (Cycle ring) = ⊥
AtTie bs Memory = Unit {0}

-- the ties are read: the table says what they say, or the first that has a fault is told
abbrev pub TiesRead : List ℕ → Result Matrix Refusal → Type 0
TiesRead bs (Ok m) = CleanTies bs (ties bs) × (count m ≡ networks bs) × ((i j : ℕ) → rel m i j ≡ after bs (ties bs) i j)
TiesRead bs (Err r) = AtTie bs r

-- the refusal: the first thing with a fault, or the cycle that is told of a file with no other fault
abbrev pub Refused : ℕ → List ℕ → Refusal → Type 0
Refused most bs (Fault f) = FirstFault most bs f.place f.cause
Refused most bs (Cycle ring) = Faultless most bs × First (after bs (ties bs)) (vec_items ring)
Refused most bs Memory = Unit {0}

-- no thing has a fault, and the table says what the bytes say; or the refusal
abbrev pub TableRead : ℕ → List ℕ → Result Matrix Refusal → Type 0
TableRead most bs (Ok m) =
    Faultless most bs × (count m ≡ networks bs) × ((i j : ℕ) → rel m i j ≡ after bs (ties bs) i j)
TableRead most bs (Err e) = Refused most bs e

-- the relations that are read
pub record Accepted (most : ℕ) (bs : List ℕ) (r : Relations) : Type 0 where
  pub faultless : Faultless most bs
  pub count : networks_of r ≡ networks bs
  pub says : (i j : ℕ) → relation_of r i j ≡ after bs (ties bs) i j
  pub encodes : bs ≡ file_of r

-- what reading answers, where the caller allows `most` networks
abbrev pub Read : ℕ → List ℕ → Result Relations Refusal → Type 0
Read most bs (Ok r) = Accepted most bs r
Read most bs (Err e) = Refused most bs e

-- a thing that stands in the file
abbrev pub Stands : List ℕ → Place → Type 0
Stands bs Head = Unit {0}
Stands bs (Tie k) = k < ties bs
Stands bs End = Unit {0}

-- no thing of the file has any fault of its list
abbrev pub Clear : ℕ → List ℕ → Type 0
Clear most bs = (place : Place) → Stands bs place → IsLowest number (checks_at most bs place) None

-- the fault that is told holds of its thing, and none of the thing's has a lower number
abbrev pub Lowest : ℕ → List ℕ → Refusal → Type 0
Lowest most bs (Fault f) = IsLowest number (checks_at most bs f.place) (Some f.cause)
Lowest most bs (Cycle ring) = Clear most bs
Lowest most bs Memory = Unit {0}

-- what is told of a file is the lowest of its thing, and nothing could be told of an accepted one
abbrev pub LowestTold : ℕ → List ℕ → Result Relations Refusal → Type 0
LowestTold most bs (Ok r) = Clear most bs
LowestTold most bs (Err e) = Lowest most bs e
