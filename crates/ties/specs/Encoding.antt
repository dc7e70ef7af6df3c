-- Relations between n networks as bytes. Assumes nothing.
use Rattle.std.specs.Prelude.{ℕ, ◌/◌, ◌%◌, cond, List, [], ◌∷◌, length, nat_lt}
use Rattle.std.specs.List.{flat_map}
use Rattle.model.specs.Relations.{Between}
use Rattle.model.specs.Lists.{gather}
use Rattle.relations.specs.Sound.{networks, relation}
use Rattle.model.specs.declared.relation.Relation.{Relation}
use Rattle.model.specs.declared.relation.Relation.TheVariants.{Unrelated, Customer, Peer, Provider}
use Rattle.relations.specs.declared.sound.Relations.{Relations}
use Rattle.ties.specs.declared.encoder.TheConstants.{TIES}
use Rattle.ties.specs.declared.kind.Kind.TheVariants.{Customer as CustomerFirst, Peers}
use Rattle.ties.specs.Kind.{byte}

-- two networks and the byte of the kind of tie
pub record Listed : Type 0 where
  pub one : ℕ
  pub other : ℕ
  pub kind : ℕ

-- the tie of i and j, where it is i that stands first
abbrev pub listed : Relation → ℕ → ℕ → List Listed
listed Unrelated i j = []
listed Customer i j = []
listed Peer i j = cond (nat_lt i j) (record { one = i; other = j; kind = byte Peers } ∷ []) []
listed Provider i j = record { one = i; other = j; kind = byte CustomerFirst } ∷ []

-- the ties in which i stands first, in rising order of the second number
abbrev pub row : ℕ → Between → ℕ → List Listed
row n rel i = gather (λ j. listed (rel i j) i j) n

-- all ties of n networks, in rising order of the first and then the second number
abbrev pub listing : ℕ → Between → List Listed
listing n rel = gather (row n rel) n

abbrev pub bytes_of : Listed → List ℕ
bytes_of t = t.one ∷ t.other ∷ t.kind ∷ []

-- the file: `TIES`, n, how many ties (high byte first), and the ties
abbrev pub encoding : ℕ → Between → List ℕ
encoding n rel =
    TIES ∷ n ∷ length (listing n rel) / 256 ∷ length (listing n rel) % 256 ∷ flat_map bytes_of (listing n rel)

-- that of sound relations
abbrev pub file_of : Relations → List ℕ
file_of r = encoding (networks r) (relation r)
