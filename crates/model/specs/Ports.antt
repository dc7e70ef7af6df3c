-- Ports: where the links of a network end. Today a network has one port for each neighbour, by the neighbour's number.
-- Assumes nothing.
use Rattle.std.specs.Prelude.{ℕ}

abbrev pub Port : Type 0
Port = ℕ

-- the network at the other end of the link at port p of network i
abbrev pub far : ℕ → Port → ℕ
far i p = p

-- the port there of the same link
abbrev pub back : ℕ → Port → Port
back i p = i

-- how many ports a network has, of n networks
abbrev pub ports : ℕ → ℕ
ports n = n
