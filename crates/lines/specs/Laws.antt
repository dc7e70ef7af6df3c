-- What holds of every list of turns. Assumes nothing.
use Rattle.std.specs.Prelude.{◌≡◌, ℕ, Bool, true, false, ◌&&◌, ◌||◌, List, ◌∷◌, ◌++◌, Ok, Err, Result, MatchBool, ◌==◌}
use Rattle.std.specs.List.{AllByRecursion}
use Rattle.model.specs.Relations.{related}
use Rattle.relations.specs.Sound.{networks, relation}
use Rattle.relations.specs.declared.sound.Relations.{Relations}
use Rattle.model.specs.Stable.{Links}
use Rattle.script.specs.Turns.{turn_entries}
use Rattle.script.specs.Whole.{Entry}
use Rattle.script.specs.declared.cause.Cause as script
use Rattle.script.specs.declared.command.Turn.{Turn}
use Rattle.lines.specs.After.{links_said}
use Rattle.lines.specs.declared.cause.Cause.{Cause}
use Rattle.lines.specs.declared.cause.Cause.TheVariants.{Line, NoLink}

-- a turn is of the link of i and j, in either order
abbrev pub of_link : ℕ → ℕ → Turn → Bool
of_link i j t = (i == t.first && j == t.second) || (i == t.second && j == t.first)

-- an entry is no turn of the link of i and j
abbrev pub Elsewhere : ℕ → ℕ → Entry Turn → Type 0
Elsewhere i j e = (t : Turn) → e.says ≡ Ok t → of_link i j t ≡ false

-- the last turn of the link of i and j says that it is up
pub record LastIsUp (i j : ℕ) (es : List (Entry Turn)) : Type 0 where
  pub before : List (Entry Turn)
  pub line : ℕ
  pub turn : Turn
  pub after : List (Entry Turn)
  pub split : es ≡ before ++ (record { line = line; says = Ok turn } ∷ after)
  pub of : of_link i j turn ≡ true
  pub up : turn.up ≡ true
  pub last : AllByRecursion (Elsewhere i j) after

-- a link is up in the end exactly if the last turn of it says so; so without a turn of it, it is down
abbrev pub LastTurned : Type 0
LastTurned =
    (r : Relations) (text : List ℕ) (links : Links) → links_said r text ≡ Ok links → (i j : ℕ) →
    MatchBool (links i j)
    (LastIsUp i j (turn_entries (networks r) 0 text))
    (LastIsUp i j (turn_entries (networks r) 0 text) → ⊥)

-- an entry is a turn of two related networks
abbrev pub Good : Relations → Entry Turn → Type 0
Good r e = (t : Turn) × (e.says ≡ Ok t) × (related (relation r t.first t.second) ≡ true)

-- where there are links in the end, each entry is a turn of two related networks
abbrev pub NoneIsPassedOver : Type 0
NoneIsPassedOver =
    (r : Relations) (text : List ℕ) (links : Links) → links_said r text ≡ Ok links →
    AllByRecursion (Good r) (turn_entries (networks r) 0 text)

-- what is wrong with an entry
abbrev pub Wrong : Relations → Result Turn script.Cause → Cause → Type 0
Wrong r (Ok t) c = (related (relation r t.first t.second) ≡ false) × (c ≡ NoLink)
Wrong r (Err d) c = c ≡ Line d

-- an entry of this line has this fault, and all before it are turns of two related networks
pub record FirstFault (r : Relations) (line : ℕ) (c : Cause) (es : List (Entry Turn)) : Type 0 where
  pub before : List (Entry Turn)
  pub says : Result Turn script.Cause
  pub after : List (Entry Turn)
  pub split : es ≡ before ++ (record { line = line; says = says } ∷ after)
  pub good : AllByRecursion (Good r) before
  pub wrong : Wrong r says c

-- the fault that is told is the first
abbrev pub FaultsAreTheFirst : Type 0
FaultsAreTheFirst =
    (r : Relations) (text : List ℕ) (line : ℕ) (c : Cause) → links_said r text ≡ Err (line, c) →
    FirstFault r line c (turn_entries (networks r) 0 text)
