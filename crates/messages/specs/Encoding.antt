-- Messages as bytes. Assumes nothing.
use Rattle.std.specs.Prelude.{ℕ, ◌/◌, ◌%◌, Bool, true, cond, List, [], ◌∷◌, ◌++◌, length, Some, None}
use Rattle.std.specs.List.{flat_map}
use Rattle.text.specs.Dotted.{address_bytes}
use Rattle.model.specs.Selection.{Said}
use Rattle.messages.specs.Meaning.{Message, Thing, update, packet, turn}
use Rattle.messages.specs.Places.{fits}

-- the number of a block, high byte first
abbrev pub block_bytes : ℕ → List ℕ
block_bytes block = block / 256 ∷ block % 256 ∷ []

-- a way: 1, the block, how many networks, and the path; a withdrawal: 2 and the block
abbrev pub update_bytes : ℕ → Said → List ℕ
update_bytes block (Some path) = 1 ∷ block_bytes block ++ length path.networks ∷ path.networks
update_bytes block None = 2 ∷ block_bytes block

-- a link that is up
abbrev pub state_byte : Bool → ℕ
state_byte up = cond up 1 0

-- a packet: 3, the address and the hops; a turn: 4, the other end, and 1 for up, 0 for down
abbrev pub thing_bytes : Thing → List ℕ
thing_bytes (update u) = update_bytes u.block u.says
thing_bytes (packet p) = 3 ∷ address_bytes p.address ++ p.hops ∷ []
thing_bytes (turn other up) = 4 ∷ other ∷ state_byte up ∷ []

-- a path of no network or of more than 64 has no bytes
abbrev pub said_fits : Said → Bool
said_fits (Some path) = fits (length path.networks)
said_fits None = true

abbrev pub has_bytes : Thing → Bool
has_bytes (update u) = said_fits u.says
has_bytes (packet p) = true
has_bytes (turn other up) = true

-- a message: the network and the thing. Nothing stands for an update whose path has no bytes
abbrev pub bytes_of : Message → List ℕ
bytes_of m = cond (has_bytes m.thing) (m.network ∷ thing_bytes m.thing) []

-- messages, one after the other
abbrev pub stream_of : List Message → List ℕ
stream_of ms = flat_map bytes_of ms
