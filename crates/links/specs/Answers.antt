-- What a router answers. Assumes nothing.
use Rattle.std.specs.Prelude.{◌≡◌, ℕ, ◌<◌, Bool, List, Some, None, MatchResult, Option, Result, Ok, Err, slice_index_or}
use Rattle.model.specs.Hearing.{every, forgotten, hearing_fault, only, replaced, turning_fault}
use Rattle.model.specs.Local.{Update, Local, sends}
use Rattle.model.specs.Ports.{Port}
use Rattle.model.specs.World.{World}
use Rattle.model.specs.declared.fault.Fault.{Fault}
use Rattle.selection.specs.Sets.{member}
use Rattle.selection.specs.declared.set.NetworkSet.{NetworkSet}

-- a test refuses with the fault that is told, if there is one
abbrev pub Refuses : Option Fault → Result (Unit {0}) Fault → Type 0
Refuses fault r = MatchResult r (λ _. fault ≡ None) (λ f. fault ≡ Some f)

-- the set of the ports to which network i sends block b when it exports these blocks
abbrev pub Audience : World → ℕ → (ℕ → Bool) → Local → ℕ → NetworkSet → Type 0
Audience w i these s b audience = (k : Port) → member audience k ≡ sends w i these s b k

-- an update that network i heard at port j: it was taken, and the answer names those to whom its block goes, or it was
-- refused with the fault that is told
abbrev pub Answered : World → ℕ → Local → Port → Update → Result NetworkSet Fault → Type 0
Answered w i s j u (Ok audience) =
    (hearing_fault w i s j u ≡ None) × Audience w i (only u.block) (replaced j u s) u.block audience
Answered w i s j u (Err fault) = hearing_fault w i s j u ≡ Some fault

-- of each of the first n blocks, those to whom it goes when network i exports every block
abbrev pub ToldAll : World → ℕ → Local → List NetworkSet → ℕ → Type 0
ToldAll w i s audiences n =
    (b k : ℕ) (d : NetworkSet) → b < n → member (slice_index_or audiences b d) k ≡ sends w i every s b k

-- a link change at network i: it was taken, and the audiences are of the blocks as they then go, or it was refused with
-- the fault that is told
abbrev pub TurnAnswered : World → ℕ → Local → Port → Bool → List NetworkSet → Result (Unit {0}) Fault → Type 0
TurnAnswered w i s j b audiences (Ok _) =
    (turning_fault w i j ≡ None) × ToldAll w i (forgotten j b s) audiences w.blocks
TurnAnswered w i s j b audiences (Err fault) = turning_fault w i j ≡ Some fault
