-- What a command does, and why it is not done, in the terms of the model of a run.
use Rattle.std.specs.Prelude.{◌≡◌, ℕ, List, [], ◌∷◌, ◌++◌, MatchResult, Some, None, Option, Result, vec_items, Vec}
use Rattle.std.specs.declared.alloc.Global.{Global}
use Rattle.forwarding.specs.declared.packet.Ending.{Ending}
use Rattle.model.specs.Flight.{Still}
use Rattle.model.specs.Promise.{Settled}
use Rattle.model.specs.Run.{Quiescent, links}
use Rattle.script.specs.declared.command.Command.{Command}
use Rattle.script.specs.declared.command.Command.TheVariants.{Turn, Hear, Send, Show, Rest}
use Rattle.simulation.specs.Resting.{FatesTold, HeardAll}
use Rattle.simulation.specs.Simulated.{blocks_of, lookup_of, state_of, world_of}
use Rattle.simulation.specs.Steps.{Hears, NotHeard, NotSent, NotTurned, Sends, Turns}
use Rattle.simulation.specs.declared.cause.Refusal.{Refusal}
use Rattle.simulation.specs.declared.cause.Refusal.TheVariants.{Memory}
use Rattle.simulation.specs.declared.simulation.Simulation.{Simulation}

-- the end that a step brought, if any
abbrev pub one_or_none : Option Ending → List Ending
one_or_none None = []
one_or_none (Some e) = e ∷ []

-- a step was made, and the end that it brought stands behind those that were told before
pub record Told (step : Option Ending → Type 0) (before after : List Ending) : Type 0 where
  pub ending : Option Ending
  pub made : step ending
  pub told : after ≡ before ++ one_or_none ending

-- everything in flight was heard, the lowest pair first, with the ends that came, and the stable routing stands; where
-- no update was in flight, each packet that was ended by its fate
pub record Rested (x y : Simulation) (before after : List Ending) : Type 0 where
  pub links : (i k : ℕ) → links (state_of y) i k ≡ links (state_of x) i k
  pub heard : HeardAll (world_of x) (lookup_of x) (state_of x) (state_of y) before after
  pub still : Still (state_of y)
  pub settled : Settled (world_of x) (state_of y)
  pub fates : Quiescent (state_of x) → FatesTold (world_of x) (lookup_of x) (state_of x) before after

-- showing changes nothing
abbrev pub Done : Command → Simulation → Simulation → List Ending → List Ending → Type 0
Done (Turn i j up) x y before after = Turns (world_of x) (lookup_of x) i j up (state_of x) (state_of y) × (after ≡ before)
Done (Hear i j) x y before after = Told (Hears (world_of x) (lookup_of x) i j (state_of x) (state_of y)) before after
Done (Send i address) x y before after =
    Told (Sends (world_of x) (lookup_of x) i address.0 (state_of x) (state_of y)) before after
Done (Show b) x y before after = (state_of y ≡ state_of x) × (after ≡ before)
Done Rest x y before after = Rested x y before after

-- a step that is not played changes nothing; where memory ends, a rest has heard some, and the ends that came are told
abbrev pub NotDone : Command → Simulation → Simulation → List Ending → List Ending → Refusal → Type 0
NotDone (Turn i j up) x y before after refusal =
    NotTurned (world_of x) (lookup_of x) i j up (state_of x) refusal × (y ≡ x) × (after ≡ before)
NotDone (Hear i j) x y before after refusal =
    NotHeard (world_of x) (lookup_of x) i j (state_of x) refusal × (y ≡ x) × (after ≡ before)
NotDone (Send i address) x y before after refusal =
    NotSent (world_of x) (lookup_of x) i address.0 (state_of x) refusal × (y ≡ x) × (after ≡ before)
NotDone (Show b) x y before after refusal = ⊥
NotDone Rest x y before after refusal =
    (refusal ≡ Memory) × HeardAll (world_of x) (lookup_of x) (state_of x) (state_of y) before after

-- a command is done, or it is told why it is not
abbrev pub Plays :
    Command → Simulation → Simulation → Vec Ending Global → Vec Ending Global → Result (Unit {0}) Refusal → Type 0
Plays command x y before after r =
    MatchResult r (λ _. Done command x y (vec_items before) (vec_items after))
    (NotDone command x y (vec_items before) (vec_items after))

-- the blocks stay as they are
abbrev pub SameBlocks : Simulation → Simulation → Type 0
SameBlocks old new = blocks_of new ≡ blocks_of old
