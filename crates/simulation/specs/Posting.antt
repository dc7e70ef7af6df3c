-- The oldest of what is in flight, and who is told of what is sent. Assumes nothing.
use Rattle.std.specs.Prelude.{◌≡◌, ℕ, ◌<◌, Bool, true, false, List, [], length, take, Result, Ok, Err}
use Rattle.std.specs.Prelude.{slice_index_or}
use Rattle.std.specs.List.{filter}
use Rattle.selection.specs.Sets.{member}
use Rattle.selection.specs.declared.set.NetworkSet.{NetworkSet}
use Rattle.advertisement.specs.declared.update.Update.TheVariants.{Announce}
use Rattle.model.specs.Run.{Item, update, packet}
use Rattle.model.specs.declared.fault.Fault.{Fault}
use Rattle.simulation.specs.Posts.{between, goes, meant, posts}
use Rattle.simulation.specs.declared.letter.Item.TheVariants.{Update}
use Rattle.simulation.specs.declared.letter.Letter.{Letter}

-- a letter that stands where there is none
abbrev pub blank : Letter
blank = record { from = 0; to = 0; item = Update (Announce (record { block = 0; length = 0; networks = [] })) }

-- the letter at place k
abbrev pub letter_at : List Letter → ℕ → Letter
letter_at ls k = slice_index_or ls k blank

-- at place k stands a letter from i to j, and none before it goes there
pub record Oldest (i j k : ℕ) (ls : List Letter) : Type 0 where
  pub there : k < length ls
  pub first : between i j (posts (take k ls)) ≡ []
  pub here : true ≡ goes i j (meant (letter_at ls k))

-- who is to be told after an update was heard
abbrev pub told_by : Result NetworkSet Fault → ℕ → Bool
told_by (Ok audience) k = member audience k
told_by (Err fault) k = false

-- whether it is an update
abbrev pub is_update : Item → Bool
is_update (update u) = true
is_update (packet p) = false

-- how many of these letters are updates
abbrev pub updates_sent : List Letter → ℕ
updates_sent ls = length (filter (λ l. is_update (meant l).what) ls)
