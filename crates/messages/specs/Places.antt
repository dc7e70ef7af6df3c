-- What stands at the front of any bytes, by its places: a network, a kind, and what that kind of message has. Assumes
-- nothing.
use Rattle.std.specs.Prelude.{ℕ, ◌+◌, Bool, cond, ◌&&◌, ◌||◌, List, drop, take, ◌==◌, nat_le, nat_lt, slice_index}
use Rattle.wire.specs.Numbers.{word16, word32}

-- a path has 1 to so many networks
abbrev pub most_networks : ℕ
most_networks = 64

abbrev pub fits : ℕ → Bool
fits length = nat_lt 0 length && nat_le length most_networks

-- what stands of a way before its path: the network, the kind, the block (two bytes), and how many networks it has
abbrev pub before_path : ℕ
before_path = 5

-- no message has more bytes than a way of the most networks
abbrev pub most_bytes : ℕ
most_bytes = before_path + most_networks

-- the network that it comes from or goes to
abbrev pub network : List ℕ → ℕ
network bs = slice_index bs 0

-- 1: a way, 2: a withdrawal, 3: a packet, 4: a turn of a link
abbrev pub kind : List ℕ → ℕ
kind bs = slice_index bs 1

abbrev pub is_kind : ℕ → Bool
is_kind kind = kind == 1 || kind == 2 || kind == 3 || kind == 4

-- of a way: its block, how many networks its path has, and these
abbrev pub block : List ℕ → ℕ
block bs = word16 bs 2

abbrev pub path_length : List ℕ → ℕ
path_length bs = slice_index bs 4

abbrev pub path : List ℕ → List ℕ
path bs = take (path_length bs) (drop before_path bs)

-- a withdrawal has a block, in the same place

-- of a packet: its address, and how many hops are left
abbrev pub address : List ℕ → ℕ
address bs = word32 bs 2

abbrev pub hops : List ℕ → ℕ
hops bs = slice_index bs 6

-- of a turn: the other end, and how the link stands; 1: up, 0: down
abbrev pub other : List ℕ → ℕ
other bs = slice_index bs 2

abbrev pub link_state : List ℕ → ℕ
link_state bs = slice_index bs 3

-- the bytes that the message needs. One of a kind that is not known needs the two by which that is seen, and a way of a
-- bad length those before its path: what stands behind is not looked at
abbrev pub way_extent : ℕ → ℕ
way_extent length = before_path + cond (fits length) length 0

abbrev pub extent_by : ℕ → ℕ → ℕ
extent_by kind length =
    cond (kind == 1) (way_extent length) (cond (kind == 2) 4 (cond (kind == 3) 7 (cond (kind == 4) 4 2)))

abbrev pub extent : List ℕ → ℕ
extent bs = extent_by (kind bs) (path_length bs)
