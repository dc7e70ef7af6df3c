-- Exporting: what a network tells each neighbour. Assumes nothing.
use Rattle.std.specs.Prelude.{ℕ, Bool, true, false, cond, [], ◌∷◌, length, Some, None, nat_lt}
use Rattle.std.specs.Str.{bytes_eq}
use Rattle.model.specs.Paths.{Path}
use Rattle.model.specs.Ports.{Port}
use Rattle.model.specs.Relations.{related}
use Rattle.model.specs.Selection.{Said, Choice, nothing, local, via}
use Rattle.model.specs.declared.limits.TheConstants.{MOST_NETWORKS}
use Rattle.model.specs.declared.relation.Relation.{Relation}
use Rattle.model.specs.declared.relation.Relation.TheVariants.{Unrelated, Customer, Peer, Provider}

-- who may be told a path: by what the neighbour is that told it, and what the neighbour is that would be told
abbrev pub may_tell : Relation → Relation → Bool
may_tell Customer Customer = true
may_tell Customer Peer = true
may_tell Customer Provider = true
may_tell Customer Unrelated = false
may_tell Peer Customer = true
may_tell Peer Peer = false
may_tell Peer Provider = false
may_tell Peer Unrelated = false
may_tell Provider Customer = true
may_tell Provider Peer = false
may_tell Provider Provider = false
may_tell Provider Unrelated = false
may_tell Unrelated Customer = false
may_tell Unrelated Peer = false
may_tell Unrelated Provider = false
may_tell Unrelated Unrelated = false

-- the path that leads to the network itself, where it is at home
abbrev pub own : ℕ → Path
own me = record { networks = me ∷ [] }

-- the path with the network itself put in front
abbrev pub longer : ℕ → Path → Path
longer me p = record { networks = me ∷ p.networks }

-- a path of as many networks as there may be passes all of them, and is told to nobody
abbrev pub in_front : ℕ → Path → Said
in_front me p = cond (nat_lt (length p.networks) MOST_NETWORKS) (Some (longer me p)) None

-- what a network tells at port k over a link that is up, where rel says what its neighbours are to it
abbrev pub told : (Port → Relation) → ℕ → Port → Choice → Said
told rel me k nothing = None
told rel me k local = cond (related (rel k)) (Some (own me)) None
told rel me k (via j p) = cond (may_tell (rel j) (rel k)) (in_front me p) None

-- nothing is told over a link that is down
abbrev pub tells : (Port → Relation) → (Port → Bool) → ℕ → Port → Choice → Said
tells rel up me k c = cond (up k) (told rel me k c) None

-- whether two sayings are the same
abbrev pub same_saying : Said → Said → Bool
same_saying None None = true
same_saying None (Some q) = false
same_saying (Some p) None = false
same_saying (Some p) (Some q) = bytes_eq p.networks q.networks
