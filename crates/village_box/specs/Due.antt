-- What a village writes on a stream of messages, each answered before the next. Assumes nothing.
use Rattle.std.specs.Prelude.{◌≡◌, ℕ, Bool, true, false, List, [], ◌∷◌, ◌++◌, Option, Ok, Err, Result}
use Rattle.blocks.specs.declared.block_list.BlockList.{BlockList}
use Rattle.blocks.specs.Ranges.{block_at}
use Rattle.blocks.specs.Shown.{count_of, firsts_of, homes_of, lasts_of}
use Rattle.forwarding.specs.Forwarding.{below}
use Rattle.links.specs.Held.{blocks_of, held, links_up, number_of}
use Rattle.links.specs.Made.{Fresh}
use Rattle.model.specs.Local.{Local}
use Rattle.model.specs.Packets.{Lookup}
use Rattle.model.specs.World.{World}
use Rattle.messages.specs.Encoding.{stream_of}
use Rattle.messages.specs.Meaning.{Message}
use Rattle.messages.specs.Reading.{messages_in}
use Rattle.messages.specs.declared.cause.Cause.{Cause}
use Rattle.relations.specs.declared.sound.Relations.{Relations}
use Rattle.selection.specs.Worlds.{world_by}
use Rattle.speaker.specs.Rule.{Taken, on_message}
use Rattle.speaker.specs.declared.fault.Fault.{Fault}
use Rattle.village_box.specs.declared.village.Village.{Village}

-- what a network holds after a message: of one that is refused, what it held before
abbrev pub holds_after : Local → Result Taken Fault → Local
holds_after s (Ok taken) = taken.holds
holds_after s (Err fault) = s

-- the bytes that it writes on a message: of one that is refused, none
abbrev pub written_on : Result Taken Fault → List ℕ
written_on (Ok taken) = stream_of taken.writes
written_on (Err fault) = []

-- the bytes that network i writes on messages, one after the other
unfoldable pub written : World → Lookup → ℕ → Local → List Message → List ℕ
written w at i s [] = []
written w at i s (m ∷ ms) = written_on (on_message w at i s m) ++ written w at i (holds_after s (on_message w at i s m)) ms

-- the faults of those that it refuses, one after the other
abbrev pub fault_of : Result Taken Fault → List Fault
fault_of (Ok taken) = []
fault_of (Err fault) = fault ∷ []

unfoldable pub refusals : World → Lookup → ℕ → Local → List Message → List Fault
refusals w at i s [] = []
refusals w at i s (m ∷ ms) = fault_of (on_message w at i s m) ++ refusals w at i (holds_after s (on_message w at i s m)) ms

-- the faults of these that stop a box: none, if it goes on behind them
abbrev pub stopping : Bool → List Fault → List Fault
stopping true faults = []
stopping false faults = faults

-- what is told in all by a box that goes on or does not, where so much is told and these bytes are still to be answered; the
-- faults that stop it; and the fault that the bytes end with
abbrev pub due : World → Lookup → ℕ → Local → Bool → List ℕ → List ℕ → List ℕ × List Fault × Option Cause
due w at i s g told bs = (told ++ written w at i s (messages_in bs).messages, stopping g (refusals w at i s (messages_in bs).messages), (messages_in bs).fault)

-- what the rule sees of a village: the networks and the homes, the block of an address, and what it holds
abbrev pub world_of : Village → World
world_of v = world_by v.relations (homes_of v.blocks) (blocks_of v.tables)

abbrev pub lookup_of : Village → Lookup
lookup_of v address = below (blocks_of v.tables) (block_at (firsts_of v.blocks) (lasts_of v.blocks) address)

abbrev pub number_in : Village → ℕ
number_in v = number_of v.router

abbrev pub held_by : Village → Local
held_by v = held v.router v.tables

abbrev pub due_of : Village → Bool → List ℕ → List ℕ → List ℕ × List Fault × Option Cause
due_of v g told bs = due (world_of v) (lookup_of v) (number_in v) (held_by v) g told bs

-- a village as it begins: every line is down, and it has heard and told nothing
abbrev pub Begins : ℕ → Relations → BlockList → Village → Type 0
Begins number relations blocks v = (number_in v ≡ number) × (v.relations ≡ relations) × (v.blocks ≡ blocks) × ((k : ℕ) → links_up v.router k ≡ false) × Fresh (count_of blocks) v.tables
