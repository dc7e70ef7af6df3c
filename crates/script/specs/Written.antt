-- Commands as text. Assumes nothing.
use Rattle.std.specs.Prelude.{ℕ, ◌^◌, ◌<◌, cond, List, [], ◌∷◌, ◌++◌, codes, decimal}
use Rattle.text.specs.Dotted.{dotted}
use Rattle.script.specs.Parts.{feed}
use Rattle.script.specs.declared.command.Command.{Command}
use Rattle.script.specs.declared.command.Command.TheVariants.{Turn, Hear, Send, Show, Rest}
use Rattle.script.specs.declared.command.Limits.{Limits}

abbrev pub said : Command → List (List ℕ)
said (Turn i j up) = codes "turn" ∷ decimal i ∷ decimal j ∷ cond up (codes "up") (codes "down") ∷ []
said (Hear i j) = codes "hear" ∷ decimal i ∷ decimal j ∷ []
said (Send i a) = codes "send" ∷ decimal i ∷ dotted a.0 ∷ []
said (Show block) = codes "show" ∷ decimal block ∷ []
said Rest = codes "rest" ∷ []

-- words with a space between them
abbrev pub spaced : List (List ℕ) → List ℕ
spaced [] = []
spaced (w ∷ []) = w
spaced (w ∷ v ∷ vs) = w ++ (32 ∷ spaced (v ∷ vs))

abbrev pub written : Command → List ℕ
written c = spaced (said c)

-- the numbers are below those of networks and blocks, and an address has 32 bits
abbrev pub Within : Limits → Command → Type 0
Within limits (Turn i j up) = (i < limits.networks) × (j < limits.networks)
Within limits (Hear i j) = (i < limits.networks) × (j < limits.networks)
Within limits (Send i a) = (i < limits.networks) × (a.0 < 2 ^ 32)
Within limits (Show block) = block < limits.blocks
Within limits Rest = Unit {0}

-- a line for each command
abbrev pub all_written : List Command → List ℕ
all_written [] = []
all_written (c ∷ cs) = written c ++ (feed ∷ all_written cs)

abbrev pub AllWithin : Limits → List Command → Type 0
AllWithin limits [] = Unit {0}
AllWithin limits (c ∷ cs) = Within limits c × AllWithin limits cs
