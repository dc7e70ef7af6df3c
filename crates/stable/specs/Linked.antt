-- Which links are up, and a link that turns. Assumes nothing.
use Rattle.std.specs.Prelude.{◌≡◌, ℕ, ◌<◌, Bool, true, false, cond, ◌&&◌, ◌||◌, Some, None, Option, ◌==◌, min, max}
use Rattle.std.specs.Prelude.{nat_lt}
use Rattle.std.specs.List.{slice_get}
use Rattle.model.specs.Relations.{related}
use Rattle.relations.specs.Sound.{networks, relation}
use Rattle.relations.specs.declared.sound.Relations.{Relations}
use Rattle.selection.specs.Sets.{member}
use Rattle.selection.specs.declared.set.NetworkSet.{NetworkSet}
use Rattle.model.specs.Stable.{Links}
use Rattle.model.specs.declared.fault.Fault.{Fault}
use Rattle.model.specs.declared.fault.Fault.TheVariants.{BadLength, LinkDown, NoLink, NoSuchBlock, NoSuchNetwork}
use Rattle.model.specs.declared.fault.Fault.TheVariants.{NotValleyFree, NotRelated, Repeats, WrongEnd, WrongStart}
use Rattle.stable.specs.declared.linked.LinkSet.{LinkSet}

abbrev pub in_some : Option NetworkSet → ℕ → Bool
in_some None j = false
in_some (Some s) j = member s j

-- a link stands once, in the set of its lower end
abbrev pub up : LinkSet → Links
up s i j = in_some (slice_get s.higher (min i j)) (max i j)

-- as before, but the link of i and j is as told
abbrev pub with_link : Links → ℕ → ℕ → Bool → Links
with_link links i j is_up a b = cond ((a == i && b == j) || (a == j && b == i)) is_up (links a b)

-- the link of i and j, two networks that are related, has turned
abbrev pub Turned : Relations → ℕ → ℕ → Bool → LinkSet → LinkSet → Type 0
Turned r i j is_up before after =
    (i < networks r) × (j < networks r) × (related (relation r i j) ≡ true) ×
    ((a b : ℕ) → up after a b ≡ with_link (up before) i j is_up a b)

-- why a link does not turn
abbrev pub TurnRefused : Relations → ℕ → ℕ → Fault → Type 0
TurnRefused r i j NoSuchNetwork = (nat_lt i (networks r) && nat_lt j (networks r)) ≡ false
TurnRefused r i j NoLink = (i < networks r) × (j < networks r) × (related (relation r i j) ≡ false)
TurnRefused r i j BadLength = ⊥
TurnRefused r i j NoSuchBlock = ⊥
TurnRefused r i j NotRelated = ⊥
TurnRefused r i j LinkDown = ⊥
TurnRefused r i j WrongStart = ⊥
TurnRefused r i j WrongEnd = ⊥
TurnRefused r i j Repeats = ⊥
TurnRefused r i j NotValleyFree = ⊥
