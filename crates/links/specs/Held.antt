-- What a router and its tables hold, in the terms of the rules. Assumes nothing.
use Rattle.std.specs.Prelude.{ℕ, Bool, true, ◌&&◌, List, Vec, vec_items, nat_le, nat_lt}
use Rattle.std.specs.declared.alloc.Global.{Global}
use Rattle.model.specs.Local.{Local}
use Rattle.model.specs.Ports.{Port}
use Rattle.model.specs.World as rules
use Rattle.model.specs.declared.limits.TheConstants.{MOST_NETWORKS}
use Rattle.selection.specs.Paths.{count, row}
use Rattle.selection.specs.Sets.{member}
use Rattle.selection.specs.Worlds.{world_of}
use Rattle.selection.specs.declared.set.NetworkSet.{NetworkSet}
use Rattle.selection.specs.declared.world.World.{World}
use Rattle.advertisement.specs.declared.update.Update.{Update}
use Rattle.advertisement.specs.declared.update.Update.TheVariants.{Announce, Withdraw}
use Rattle.links.specs.declared.router.Router.{Router}
use Rattle.links.specs.declared.tables.Tables.{Tables}

-- the number of its network, and which of its links are up
abbrev pub number_of : Router → ℕ
number_of r = r.number

abbrev pub links_up : Router → Port → Bool
links_up r k = member r.up k

-- how many blocks the tables are of
abbrev pub blocks_of : Tables → ℕ
blocks_of t = count t.received

-- by block, who was to be told when a link turned last
abbrev pub audiences_of : Tables → List NetworkSet
audiences_of t = vec_items t.audiences

-- the same as it stands in memory: where, and with how much room
abbrev pub audience_list : Tables → Vec NetworkSet Global
audience_list t = t.audiences

-- the world of the rules, with the blocks that tables are of
abbrev pub world_for : World → Tables → rules.World
world_for world t = world_of world (blocks_of t)

-- what a router and its tables hold
abbrev pub held : Router → Tables → Local
held r t = record { up = links_up r; received = row t.received; advertised = row t.advertised }

-- what they hold, with what was advertised at an earlier moment
abbrev pub then_held : Router → Tables → Tables → Local
then_held r t earlier = record { up = links_up r; received = row t.received; advertised = row earlier.advertised }

-- there is a place for what an update from a neighbour says, in a table of so many blocks
abbrev pub fits : ℕ → Port → Update → Bool
fits blocks from (Announce a) =
    nat_lt a.block blocks && nat_lt from MOST_NETWORKS && nat_lt 0 a.length && nat_le a.length MOST_NETWORKS
fits blocks from (Withdraw block) = true
