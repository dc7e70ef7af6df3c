-- A thing is taken from the front of the bytes that are left. Assumes nothing.
use Rattle.std.specs.Prelude.{◌≡◌, ℕ, Bool, true, false, ◌<◌, ◌≤◌, List, [], ◌++◌, length, drop, None, Some, Option, Ok, Err, Result, ⊤}
use Rattle.messages.specs.Reading.{messages_in}
use Rattle.messages.specs.declared.cause.Cause.{Cause}
use Rattle.messages.specs.declared.cause.Cause.TheVariants.{Cut}
use Rattle.speaker.specs.declared.fault.Fault.{Fault}
use Rattle.speaker.specs.declared.fault.Fault.TheVariants.{NotAMessage}
use Rattle.speaker.specs.declared.refusal.Refusal.{Refusal}
use Rattle.speaker.specs.declared.refusal.Refusal.TheVariants.{Fault as Faulty, Memory}
use Rattle.village_box.specs.Due.{due_of, held_by, lookup_of, number_in, refusals, stopping, world_of, written}
use Rattle.village_box.specs.declared.village.Village.{Village}

-- so many bytes were answered: whatever was told before, and whatever comes behind, as much is told in all, by a box that goes
-- on or does not
abbrev pub Passes : Bool → Village → List ℕ → Village → List ℕ → List ℕ → ℕ → Type 0
Passes g v told now after bs n = (n ≤ length bs) × ((before more : List ℕ) → due_of now g (before ++ after) (drop n bs ++ more) ≡ due_of v g (before ++ told) (bs ++ more))

-- as much is told in all, whatever was told before, and whatever comes behind
abbrev pub Follows : Bool → Village → List ℕ → List ℕ → Village → List ℕ → List ℕ → Type 0
Follows g v told was now after is = (before more : List ℕ) → due_of now g (before ++ after) (is ++ more) ≡ due_of v g (before ++ told) (was ++ more)

-- a thing that was taken is passed over, and one that is refused by a box that goes on; where none is, nothing is, and what is
-- cut short has fewer bytes than 69
abbrev pub Took : Village → List ℕ → Village → List ℕ → List ℕ → Result ℕ Refusal → Type 0
Took v told now after bs (Ok n) = Passes true v told now after bs n × Passes false v told now after bs n
Took v told now after bs (Err (Faulty fault (Some n))) = Passes true v told now after bs n
Took v told now after bs (Err (Faulty fault None)) = Passes true v told now after bs 0 × Passes false v told now after bs 0 × (fault ≡ NotAMessage Cut → length bs < 69)
Took v told now after bs (Err Memory) = ⊤

-- what the output has in the end, where it has c now, where that is known, and what the input still has
abbrev pub outcome : Bool → Option (List ℕ) → Village → List ℕ → List ℕ → Option (List ℕ) → Option (List ℕ × List Fault × Option Cause)
outcome g None v told left input = None
outcome g (Some c) v told left None = None
outcome g (Some c) v told left (Some bs) = Some (due_of v g (c ++ told) (left ++ bs))

-- what is known stays
abbrev pub Stays : {A : Type 0} → Option A → Option A → Type 0
Stays None now = ⊤
Stays (Some x) now = now ≡ Some x

-- it is over, and what was to come in the end, where that is known, is there
abbrev pub Over : Option (List ℕ × List Fault × Option Cause) → Option (List ℕ) → Type 0
Over None written = ⊤
Over (Some end) written = (written ≡ Some end.0) × (end.1 ≡ []) × (end.2 ≡ None)

-- all of the input was answered, and nothing else was written: its messages, to the end, one after the other; and a box that
-- does not go on has refused none
abbrev pub Served : Bool → Village → Option (List ℕ) → Option (List ℕ) → Option (List ℕ) → Type 0
Served g v None input after = ⊤
Served g v (Some c) None after = ⊤
Served g v (Some c) (Some bs) after = (after ≡ Some (c ++ written (world_of v) (lookup_of v) (number_in v) (held_by v) (messages_in bs).messages)) × (stopping g (refusals (world_of v) (lookup_of v) (number_in v) (held_by v) (messages_in bs).messages) ≡ []) × ((messages_in bs).fault ≡ None)
