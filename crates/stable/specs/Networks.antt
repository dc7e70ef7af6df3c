-- The networks that look, in the terms of the rules. Assumes nothing.
use Rattle.std.specs.Prelude.{◌≡◌, ℕ, ◌+◌, ◌*◌, ◌<◌, Bool, true, false, length, nat_lt, ◌&&◌}
use Rattle.model.specs.Local.{at}
use Rattle.model.specs.Relations.{related}
use Rattle.model.specs.Selection.{Choice, Said}
use Rattle.model.specs.Stable.{Links}
use Rattle.model.specs.World as rules
use Rattle.relations.specs.Sound.{networks, relation}
use Rattle.selection.specs.Paths.{count, row}
use Rattle.selection.specs.Sets.{member}
use Rattle.selection.specs.Worlds.{is_home_of, world_of}
use Rattle.selection.specs.declared.set.NetworkSet.{NetworkSet}
use Rattle.selection.specs.declared.table.PathTable.{PathTable}
use Rattle.selection.specs.declared.world.World.{World}
use Rattle.stable.specs.Linked.{up}
use Rattle.stable.specs.Looking.{Same, SameOutside, Showing, Shows, UpToDate, Unaffected, shown, shows, tellers, view}
use Rattle.stable.specs.Ways.{Closed, Grown, Linked, Real, WayHome}
use Rattle.stable.specs.declared.looking.Networks.{Networks}

-- the world of the rules, with a block for each home
abbrev pub rules_of : World → rules.World
rules_of world = world_of world (length world.homes.now)

-- the world that they are in, how many they are, which of their links are up, and which are homes of the block
abbrev pub world_in : Networks → rules.World
world_in x = rules_of x.world

abbrev pub count_in : Networks → ℕ
count_in x = networks x.world.relations.now

abbrev pub links_in : Networks → Links
links_in x = up x.links.now

abbrev pub is_home_in : Networks → ℕ → Bool
is_home_in x i = is_home_of x.world x.block i

-- a home of the block that is a network that there is
abbrev pub is_known_home : Networks → ℕ → Bool
is_known_home x i = nat_lt i (count_in x) && is_home_in x i

-- is network j related to network i
abbrev pub related_in : Networks → ℕ → ℕ → Bool
related_in x i j = related (relation x.world.relations.now i j)

-- what a table says that each network shows: it has one block
abbrev pub showing : PathTable → Showing
showing t = row t 0

-- a table of one block
abbrev pub OfOne : PathTable → Type 0
OfOne t = count t ≡ 1

-- may network j tell network i what it shows; does it, over a link that is up; and is it a network that there is, which
-- does
abbrev pub shows_in : Networks → PathTable → ℕ → ℕ → Bool
shows_in x t i j = shows (relation x.world.relations.now j) i (showing t j)

abbrev pub tells_in : Networks → PathTable → ℕ → ℕ → Bool
tells_in x t i j = tellers (world_in x) (links_in x) (showing t) i j

abbrev pub is_teller_in : Networks → PathTable → ℕ → ℕ → Bool
is_teller_in x t i j = nat_lt j (count_in x) && tells_in x t i j

-- what network i goes by when it looks, and what it then shows
abbrev pub view_in : Networks → PathTable → ℕ → Choice
view_in x t i = view (world_in x) (links_in x) x.block (showing t) i

abbrev pub shown_in : Networks → PathTable → ℕ → Said
shown_in x t i = shown i (view_in x t i)

-- a table after network i was written to show this
abbrev pub Written : PathTable → PathTable → ℕ → Said → Type 0
Written before after i says = (j : ℕ) → showing after j ≡ at i says (showing before) j

-- a table of what each network shows after it looked at another
abbrev pub Looked : Networks → PathTable → PathTable → Type 0
Looked x t next = (i : ℕ) → i < count_in x → showing next i ≡ shown_in x t i

-- two tables show the same, everywhere or where networks are not in a set
abbrev pub SameIn : Networks → PathTable → PathTable → Type 0
SameIn x t next = Same (count_in x) (showing t) (showing next)

abbrev pub SameOutsideIn : Networks → NetworkSet → PathTable → PathTable → Type 0
SameOutsideIn x set t next = SameOutside (count_in x) (member set) (showing t) (showing next)

-- those that are not in a set show what they would show if they looked
abbrev pub UpToDateIn : Networks → NetworkSet → PathTable → Type 0
UpToDateIn x set t = UpToDate (world_in x) (links_in x) x.block (member set) (showing t)

-- the second set has all of the first, and all that are related to one of it: the others are unaffected
abbrev pub HasAffected : Networks → NetworkSet → NetworkSet → Type 0
HasAffected x changed set =
    (i : ℕ) → i < count_in x → member set i ≡ false → Unaffected (world_in x) (member changed) i

-- all that are related to network i are in a set
abbrev pub AddsRelated : Networks → ℕ → NetworkSet → Type 0
AddsRelated x i after = (k : ℕ) → k < count_in x → related_in x k i ≡ true → member after k ≡ true

-- how often they look, at most; and each shows what it goes by after so many looks
abbrev pub looks_in : Networks → ℕ
looks_in x = 2 * count_in x + 1

abbrev pub ShowsLast : Networks → PathTable → Type 0
ShowsLast x t = Shows (world_in x) (links_in x) x.block (looks_in x) (showing t)

-- a link leads from a network to one of a set
abbrev pub LinkedIn : Networks → NetworkSet → ℕ → Type 0
LinkedIn x set i = Linked (count_in x) (links_in x) (member set) i

-- a set of networks from each of which a way leads to a home; one to which none is to be added; and how one has grown
abbrev pub RealIn : Networks → NetworkSet → Type 0
RealIn x set = Real (count_in x) (links_in x) (is_home_in x) (member set)

abbrev pub ClosedIn : Networks → NetworkSet → Type 0
ClosedIn x set = Closed (count_in x) (links_in x) (member set)

abbrev pub GrownIn : Networks → NetworkSet → NetworkSet → Bool → Type 0
GrownIn x before after grown = Grown (count_in x) (links_in x) (is_home_in x) (member before) (member after) grown

-- some way of links that are up leads from network i to a home of the block
abbrev pub WayHomeIn : Networks → ℕ → Type 0
WayHomeIn x i = WayHome (count_in x) (links_in x) (is_home_in x) i
