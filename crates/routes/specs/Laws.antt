-- What the lines that are printed tell: which network, what it goes by, which block, and of a settled block the stable
-- routing and from where a way leads home.
use Rattle.std.specs.Prelude.{◌≡◌, ℕ, ◌^◌, ◌<◌, ◌⊎◌, Bool, List, [], ◌∷◌, ◌++◌, Some, slice_get}
use Rattle.model.specs.Lists.{gather}
use Rattle.relations.specs.Sound.{networks}
use Rattle.model.specs.Selection.{Choice, nothing, local, via}
use Rattle.model.specs.Stable.{stable}
use Rattle.stable.specs.Linked.{up}
use Rattle.selection.specs.declared.world.World.{World}
use Rattle.stable.specs.Networks.{rules_of}
use Rattle.stable.specs.Settling.{LeadsHome, Settled}
use Rattle.stable.specs.Ways.{Way}
use Rattle.stable.specs.declared.linked.LinkSet.{LinkSet}
use Rattle.stable.specs.declared.routing.Routing.{Routing}
use Rattle.routes.specs.declared.lines.BlockLine.{BlockLine}
use Rattle.routes.specs.declared.account.Account.{Account}
use Rattle.routes.specs.Accounts.{account_words, cut_off_words, network_words, routing_words, unpaid_words}
use Rattle.routes.specs.Lines.{block_words, route_words}

-- numbers of networks
abbrev pub AllSmall : List ℕ → Type 0
AllSmall [] = Unit {0}
AllSmall (x ∷ xs) = (x < 256) × AllSmall xs

abbrev pub Small : Choice → Type 0
Small nothing = Unit {0}
Small local = Unit {0}
Small (via j path) = (j < 256) × AllSmall path.networks

-- a line tells which network it is of, and what that goes by
abbrev pub LinesTellRoutes : Type 0
LinesTellRoutes =
    (i k : ℕ) (c d : Choice) → i < 256 → k < 256 → Small c → Small d →
    route_words i c ≡ route_words k d → (i ≡ k) × (c ≡ d)

-- the numbers of a block and of a network, and addresses of 32 bits
abbrev pub InRange : BlockLine → Type 0
InRange l = (l.block < 65536) × (l.first.0 < 2 ^ 32) × (l.last.0 < 2 ^ 32) × (l.home < 256)

-- the line of a block tells which block it is, its addresses and its home
abbrev pub LinesTellBlocks : Type 0
LinesTellBlocks = (l m : BlockLine) → InRange l → InRange m → block_words l ≡ block_words m → l ≡ m

-- the line of a network of a settled block tells which network it is of, what that goes by, and, where it goes by
-- nothing, whether some way leads home
abbrev pub LinesTellWays : Type 0
LinesTellWays =
    (i k : ℕ) (c d : Choice) (r s : Bool) → i < 256 → k < 256 → Small c → Small d →
    network_words i c r ≡ network_words k d s → (i ≡ k) × (c ≡ d) × (c ≡ nothing → r ≡ s)

-- the line of a network says what it goes by; of one that goes by nothing it says unpaid where some way leads home, and
-- cut off where none does
abbrev pub Tells : (way : Type 0) → ℕ → Choice → List ℕ → Type 0
Tells way i nothing line = (way × (line ≡ unpaid_words i)) ⊎ ((way → ⊥) × (line ≡ cut_off_words i))
Tells way i local line = line ≡ route_words i local
Tells way i (via j path) line = line ≡ route_words i (via j path)

-- what network i goes by in the stable routing of a block
abbrev pub goes : World → LinkSet → BlockLine → ℕ → Choice
goes world links block i = stable (rules_of world) (up links) block.block i

-- a line that tells the block, its addresses and its home, and one for each network: what it goes by in the stable
-- routing, or whether some way of links that are up leads from it to a home of the block; which is to the one that the
-- line tells, where that is the home of the block
pub record Told (world : World) (links : LinkSet) (block : BlockLine) (text : List ℕ) : Type 0 where
  pub line : ℕ → List ℕ
  pub whole : text ≡ block_words block ++ gather line (networks world.relations.now)
  pub tells : (i : ℕ) → i < networks world.relations.now →
      Tells (LeadsHome world links block.block i) i (goes world links block i) (line i)
  pub home : slice_get world.homes.now block.block ≡ Some block.home →
      (i : ℕ) → i < networks world.relations.now →
      Tells (Way (networks world.relations.now) (up links) i block.home) i (goes world links block i) (line i)

-- an account whose text says so
abbrev pub AccountsFor : World → LinkSet → BlockLine → Account → Type 0
AccountsFor world links block account = Told world links block (account_words account)

-- so it is with every routing that is settled
abbrev pub SettledIsTold : Type 0
SettledIsTold =
    (world : World) (links : LinkSet) (block : BlockLine) (x : Routing) →
    Settled world links block.block x →
    Told world links block (routing_words block (networks world.relations.now) x)
