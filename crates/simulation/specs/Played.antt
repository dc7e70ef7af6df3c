-- What a simulation answers when a step of it is played, and what it prepares before. Assumes nothing.
use Rattle.std.specs.Prelude.{◌≡◌, ℕ, ◌<◌, Bool, true, List, [], ◌∷◌, ◌++◌, length, MatchBool, MatchResult, Option}
use Rattle.std.specs.Prelude.{Result, Vec, vec_items}
use Rattle.std.specs.List.Sorted.{IsPermutation}
use Rattle.std.specs.declared.alloc.AllocError.{AllocError}
use Rattle.model.specs.Ends.{end_posted, ends, fate}
use Rattle.model.specs.Flight.{Still, fates}
use Rattle.model.specs.PacketLaws.{FateOfSent}
use Rattle.model.specs.Relations.{related}
use Rattle.model.specs.Run.{Quiescent, fresh, turned}
use Rattle.forwarding.specs.declared.packet.Ending.{Ending}
use Rattle.simulation.specs.Resting.{FatesTold, HeardAll, Lessens, NextTold}
use Rattle.simulation.specs.Simulated.{MakesHeard, MakesSent, MakesTwo, lookup_of, state_of, world_of}
use Rattle.simulation.specs.Steps.{Hears, NotHeard, NotSent, NotTurned, Sends, Turns, both}
use Rattle.simulation.specs.declared.cause.Refusal.{Refusal}
use Rattle.simulation.specs.declared.letter.Letter.{Letter}
use Rattle.simulation.specs.declared.network.Network.{Network}
use Rattle.simulation.specs.declared.prepared.Prepared.{Prepared}
use Rattle.simulation.specs.declared.simulation.Simulation.{Simulation}
use Rattle.std.specs.declared.alloc.Global.{Global}

-- x became y: network j heard the oldest from i, or did not, for this cause, and nothing is changed
abbrev pub HearingPlayed : Simulation → Simulation → ℕ → ℕ → Result (Option Ending) Refusal → Type 0
HearingPlayed x y i j result =
    MatchResult result (Hears (world_of x) (lookup_of x) i j (state_of x) (state_of y))
    (λ refusal. NotHeard (world_of x) (lookup_of x) i j (state_of x) refusal × (y ≡ x))

-- this is what x would be after that, or the cause why it would not
abbrev pub HearingPrepared : Simulation → ℕ → ℕ → Result Prepared Refusal → Type 0
HearingPrepared x i j result =
    MatchResult result
    (λ prepared.
    (both (world_of x) i j ≡ true) × (0 < length ((state_of x).flight i j)) × MakesHeard x i j prepared)
    (NotHeard (world_of x) (lookup_of x) i j (state_of x))

-- less is left in flight in y than in x
abbrev pub Falls : Simulation → Simulation → Type 0
Falls x y = Lessens (world_of x) (state_of x) (state_of y)

-- x became y: the people of network i sent a packet, or did not
abbrev pub SendingPlayed : Simulation → Simulation → ℕ → ℕ → Result (Option Ending) Refusal → Type 0
SendingPlayed x y i address result =
    MatchResult result (Sends (world_of x) (lookup_of x) i address (state_of x) (state_of y))
    (λ refusal. NotSent (world_of x) (lookup_of x) i address (state_of x) refusal × (y ≡ x))

abbrev pub SendingPrepared : Simulation → ℕ → ℕ → Result Prepared Refusal → Type 0
SendingPrepared x i address result =
    MatchResult result (λ prepared. (i < (world_of x).n) × MakesSent x i address prepared)
    (NotSent (world_of x) (lookup_of x) i address (state_of x))

-- the fate of a packet that the people of network i send
abbrev pub FateAdded : Simulation → Simulation → ℕ → ℕ → Type 0
FateAdded x y i address =
    IsPermutation
    (fates (world_of x) (lookup_of x) (state_of x) ++
    fate (world_of x) (lookup_of x) (state_of x).locals i (fresh address) ∷ [])
    (fates (world_of x) (lookup_of x) (state_of y) ++
    ends (end_posted (world_of x) (lookup_of x) i address (state_of x)))

-- where no update is in flight, it arrives after as many steps as its path has networks
abbrev pub SentByFate : Simulation → ℕ → ℕ → Type 0
SentByFate x i address =
    Quiescent (state_of x) → FateOfSent (world_of x) (lookup_of x) (state_of x) i address

-- x became y: the link of networks i and j turned, or did not
abbrev pub TurnPlayed : Simulation → Simulation → ℕ → ℕ → Bool → Result (Unit {0}) Refusal → Type 0
TurnPlayed x y i j up result =
    MatchResult result (λ _. Turns (world_of x) (lookup_of x) i j up (state_of x) (state_of y))
    (λ refusal. NotTurned (world_of x) (lookup_of x) i j up (state_of x) refusal × (y ≡ x))

abbrev pub TurnPrepared : Simulation → ℕ → ℕ → Bool → Result (Network × Network × Vec Letter Global) Refusal → Type 0
TurnPrepared x i j up result =
    MatchResult result
    (λ then.
    (both (world_of x) i j ≡ true) × (related ((world_of x).rel i j) ≡ true) ×
    MakesTwo x i j (turned (world_of x) (lookup_of x) i j up (state_of x)) then.0 then.1 (vec_items then.2))
    (NotTurned (world_of x) (lookup_of x) i j up (state_of x))

-- x became y: the next in turn was heard, its end told behind those told before; or nothing is in flight; where memory
-- is wanted nothing is changed
abbrev pub NextPlayed : Simulation → Simulation → List Ending → List Ending → Result Bool AllocError → Type 0
NextPlayed x y before after result =
    MatchResult result
    (λ more.
    MatchBool more (NextTold (world_of x) (lookup_of x) (state_of x) (state_of y) before after)
    (Still (state_of x) × (y ≡ x) × (after ≡ before)))
    (λ _. (y ≡ x) × (after ≡ before))

-- x became y by so many hearings, and their ends are told behind those told before
abbrev pub AllPlayed : Simulation → Simulation → List Ending → List Ending → Type 0
AllPlayed x y before after = HeardAll (world_of x) (lookup_of x) (state_of x) (state_of y) before after

-- where no update is in flight, each packet in flight is told by its fate
abbrev pub AllByFate : Simulation → List Ending → List Ending → Type 0
AllByFate x before after =
    Quiescent (state_of x) → FatesTold (world_of x) (lookup_of x) (state_of x) before after
