-- The text of a block that is settled: what each network goes by, and of one that goes by nothing, why.
use Rattle.std.specs.Prelude.{ℕ, Bool, true, false, List, ◌++◌, codes, decimal}
use Rattle.model.specs.Lists.{gather}
use Rattle.model.specs.Selection.{Choice, nothing, local, via}
use Rattle.stable.specs.Settling.{goes_by, has_way}
use Rattle.stable.specs.declared.routing.Routing.{Routing}
use Rattle.routes.specs.Lines.{block_words, route_words}
use Rattle.routes.specs.declared.account.Account.{Account}
use Rattle.routes.specs.declared.lines.BlockLine.{BlockLine}

-- some way of links that are up leads to the home, and yet it goes by nothing
abbrev pub unpaid_words : ℕ → List ℕ
unpaid_words i = decimal i ++ codes " nothing, unpaid\n"

-- no way of links that are up leads to the home
abbrev pub cut_off_words : ℕ → List ℕ
cut_off_words i = decimal i ++ codes " nothing, cut off\n"

-- the line of a network: what it goes by; of one that goes by nothing, whether some way leads home
abbrev pub network_words : ℕ → Choice → Bool → List ℕ
network_words i nothing true = unpaid_words i
network_words i nothing false = cut_off_words i
network_words i local reaches = route_words i local
network_words i (via j path) reaches = route_words i (via j path)

-- the line of a network by a routing
abbrev pub routing_line : Routing → ℕ → List ℕ
routing_line x i = network_words i (goes_by x i) (has_way x i)

-- a line for the block, its addresses and its home, and one for each network
abbrev pub routing_words : BlockLine → ℕ → Routing → List ℕ
routing_words block n x = block_words block ++ gather (routing_line x) n

-- the text of an account
abbrev pub account_words : Account → List ℕ
account_words a = routing_words a.block_line a.networks a.routing
