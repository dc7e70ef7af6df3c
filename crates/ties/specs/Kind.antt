-- What a kind of tie means, and the byte that tells it. Assumes nothing.
use Rattle.std.specs.Prelude.{ℕ, Bool, cond, ◌||◌, ◌==◌}
use Rattle.model.specs.declared.relation.Relation.{Relation}
use Rattle.model.specs.declared.relation.Relation.TheVariants.{Peer, Provider}
use Rattle.ties.specs.declared.kind.Kind.{Kind}
use Rattle.ties.specs.declared.kind.Kind.TheVariants.{Customer, Peers}

-- the byte; 1: the first is the second's customer, 2: peers
abbrev pub byte : Kind → ℕ
byte Customer = 1
byte Peers = 2

-- a byte that tells a kind
abbrev pub is_kind : ℕ → Bool
is_kind b = b == byte Customer || b == byte Peers

-- what the second network is to the first, by the byte
abbrev pub meant : ℕ → Relation
meant kind = cond (kind == byte Customer) Provider Peer

abbrev pub meaning : Kind → Relation
meaning kind = meant (byte kind)
