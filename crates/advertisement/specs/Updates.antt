-- What an update says of a block. Assumes nothing.
use Rattle.std.specs.Prelude.{ℕ, cond, ◌&&◌, List, ◌++◌, take, replicate, Some, None, Option, nat_le, nat_lt}
use Rattle.advertisement.specs.declared.update.Update.{Update}
use Rattle.advertisement.specs.declared.update.Update.TheVariants.{Announce, Withdraw}
use Rattle.model.specs.Paths.{path_over}
use Rattle.model.specs.Selection.{Said}
use Rattle.model.specs.Local as rules
use Rattle.model.specs.declared.limits.TheConstants.{MOST_NETWORKS}
use Rattle.advertisement.specs.declared.update.Announcement.{Announcement}

-- the block that it is of
abbrev pub block_of : Update → ℕ
block_of (Announce a) = a.block
block_of (Withdraw block) = block

-- the networks of a path of a length that may be above those that there is room for: zeros stand for those that are not
-- there
abbrev pub padded : List ℕ → ℕ → List ℕ
padded networks length = take length (networks ++ replicate length 0)

-- the path that it tells, if it tells one
abbrev pub said : Update → Said
said (Announce a) = Some (path_over (padded a.networks a.length))
said (Withdraw block) = None

-- it as an update of the rules
abbrev pub news : Update → rules.Update
news u = record { block = block_of u; says = said u }

-- the networks of a path by value, where it is one: no more than there is room for
abbrev pub networks_of : Announcement → Option (List ℕ)
networks_of a = cond (nat_lt 0 a.length && nat_le a.length MOST_NETWORKS) (Some (take a.length a.networks)) None
