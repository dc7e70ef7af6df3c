-- All networks together, in the terms of the model of a run. Assumes nothing.
use Rattle.std.specs.Prelude.{◌≡◌, ℕ, Bool, List, ◌++◌, map, Some, None, Option, slice_index_or}
use Rattle.std.specs.Option.{option_map}
use Rattle.relations.specs.declared.sound.Relations.{Relations}
use Rattle.blocks.specs.Ranges.{block_at}
use Rattle.blocks.specs.Shown.{count_of, firsts_of, homes_of, lasts_of}
use Rattle.blocks.specs.declared.block_list.BlockList.{BlockList}
use Rattle.blocks.specs.declared.blocks.Blocks.{Blocks}
use Rattle.model.specs.Ends.{end_at}
use Rattle.model.specs.Hearing.{after_hearing, after_turning, outbox_on_hearing, outbox_on_turning}
use Rattle.model.specs.Lists.{gather}
use Rattle.model.specs.Local.{Local, Update, silent}
use Rattle.model.specs.Packets.{Lookup, Packet, Forwarded, forwarded, packet_fault}
use Rattle.model.specs.Run.{State}
use Rattle.model.specs.World.{World}
use Rattle.model.specs.declared.fault.Fault.{Fault}
use Rattle.selection.specs.Paths.{row}
use Rattle.selection.specs.Worlds.{world_by}
use Rattle.selection.specs.declared.world.World.{World as Lent}
use Rattle.advertisement.specs.Telling.{in_audience}
use Rattle.links.specs.Held.{audiences_of, blocks_of, held, number_of as router_number, world_for}
use Rattle.forwarding.specs.Forwarding.{ended_of}
use Rattle.forwarding.specs.Lookup.{lookup}
use Rattle.forwarding.specs.declared.packet.Ending.{Ending}
use Rattle.simulation.specs.Posts.{Post, flying, mail, mailing, passed_on, posts}
use Rattle.simulation.specs.declared.letter.Letter.{Letter}
use Rattle.simulation.specs.declared.network.Network.{Network}

-- the world with these relations and blocks
abbrev pub world_with : Relations → BlockList → World
world_with r blocks = world_by r (homes_of blocks) (count_of blocks)

-- the block that an address is in, by the list of blocks
abbrev pub lookup_in : BlockList → Lookup
lookup_in blocks = block_at (firsts_of blocks) (lasts_of blocks)

abbrev pub local : Network → Local
local x = held x.router x.tables

abbrev pub number_of : Network → ℕ
number_of x = router_number x.router

-- how many blocks its tables are of
abbrev pub blocks_in : Network → ℕ
blocks_in x = blocks_of x.tables

-- what network i holds; one that there is not holds nothing
abbrev pub local_at : List Network → ℕ → Local
local_at xs i = slice_index_or (map local xs) i silent

abbrev pub whole : List Network → List Letter → State
whole xs ls = record { locals = local_at xs; flight = flying (posts ls) }

-- the world, with the blocks that one network's tables are of
abbrev pub world_at : Lent → Network → World
world_at world x = world_for world x.tables

-- what network x sends of a block to those of n networks that are to be told
abbrev pub mailing_of : Network → ℕ → (ℕ → Bool) → ℕ → List Post
mailing_of x block is_told n = mailing (number_of x) block is_told (row x.tables.advertised block) n

-- what it sends of every block to those who were to be told when a link turned last
abbrev pub mailing_of_all : Network → ℕ → List Post
mailing_of_all x n = gather (λ b. mailing_of x b (in_audience (audiences_of x.tables) b) n) (blocks_in x)

-- network x made a step: it then holds this, and sent that, behind what was in flight before
pub record Stepped (x : Network) (then : Local) (sent : List (ℕ × Update)) (before after : List Letter) (y : Network)
    : Type 0 where
  pub number : number_of y ≡ number_of x
  pub blocks : blocks_in y ≡ blocks_in x
  pub holds : local y ≡ then
  pub letters : posts after ≡ posts before ++ mail (number_of x) sent

-- the block that an address is in, of those that network x has tables of
abbrev pub lookup_at : Network → Blocks → Lookup
lookup_at x blocks = lookup (blocks_in x) blocks

-- what becomes of a packet at network x
abbrev pub forwarded_at : Lent → Network → Blocks → Packet → Forwarded
forwarded_at world x blocks p = forwarded (world_at world x) (lookup_at x blocks) (number_of x) (local x) p

-- network x got a packet, and this became of it: it went on to a neighbour, behind what was in flight before, or ended
pub record Carried (x : Network) (p : Packet) (became : Forwarded) (before after : List Letter) (ending : Option Ending)
    : Type 0 where
  pub letters : posts after ≡ posts before ++ passed_on (number_of x) became
  pub end : option_map ended_of ending ≡ end_at (number_of x) p became

-- network x got a packet, and did with it what its router says
abbrev pub Forwards : Lent → Network → Blocks → Packet → List Letter → List Letter → Option Ending → Type 0
Forwards world x blocks p before after ending = Carried x p (forwarded_at world x blocks p) before after ending

-- so, unless it is refused: a refused one does not go on, and ends without a word
abbrev pub Judged : Lent → Network → Blocks → Packet → List Letter → List Letter → Option Ending → Option Fault → Type 0
Judged world x blocks p before after ending None = Forwards world x blocks p before after ending
Judged world x blocks p before after ending (Some fault) = (after ≡ before) × (ending ≡ None)

-- network x got a packet from network j
abbrev pub Got : Lent → Network → Blocks → ℕ → Packet → List Letter → List Letter → Option Ending → Type 0
Got world x blocks j p before after ending =
    Judged world x blocks p before after ending (packet_fault (world_at world x) (number_of x) (local x) j)

-- network x heard an update from network j
abbrev pub Heard : Lent → Network → ℕ → Update → List Letter → List Letter → Network → Type 0
Heard world x j u before after y =
    Stepped x (after_hearing (world_at world x) (number_of x) j u (local x))
    (outbox_on_hearing (world_at world x) (number_of x) j u (local x)) before after y

-- what network x holds and sends when its link to network j turned
abbrev pub turned_to : Lent → Network → ℕ → Bool → Local
turned_to world x j up = after_turning (world_at world x) (number_of x) j up (local x)

abbrev pub sent_to : Lent → Network → ℕ → Bool → List (ℕ × Update)
sent_to world x j up = outbox_on_turning (world_at world x) (number_of x) j up (local x)

-- it did so
abbrev pub Turned : Lent → Network → ℕ → Bool → List Letter → List Letter → Network → Type 0
Turned world x j up before after y = Stepped x (turned_to world x j up) (sent_to world x j up) before after y

-- the link of x and z turned: both stepped, and x sent before z
pub record BothTurned (world : Lent) (x z : Network) (up : Bool) (before after : List Letter) (y : Network × Network)
    : Type 0 where
  pub number : number_of y.0 ≡ number_of x
  pub number2 : number_of y.1 ≡ number_of z
  pub blocks : blocks_in y.0 ≡ blocks_in x
  pub blocks2 : blocks_in y.1 ≡ blocks_in z
  pub holds : local y.0 ≡ turned_to world x (number_of z) up
  pub holds2 : local y.1 ≡ turned_to world z (number_of x) up
  pub letters : posts after ≡
      (posts before ++ mail (number_of x) (sent_to world x (number_of z) up)) ++
      mail (number_of z) (sent_to world z (number_of x) up)
