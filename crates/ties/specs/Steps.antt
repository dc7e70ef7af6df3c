-- One step of reading ties, by what has been read before. Assumes nothing.
use Rattle.std.specs.Prelude.{◌≡◌, ℕ, ◌+◌, Bool, true, false, not, ◌&&◌, ◌||◌, List, [], ◌∷◌, None, Option, ◌==◌, nat_le, nat_lt, slice_index, slice_index_or, Some}
use Rattle.model.specs.Checks.{Checks, first_fault}
use Rattle.model.specs.Relations.{related}
use Rattle.relations.specs.Table.{count, rel}
use Rattle.relations.specs.declared.matrix.Matrix.{Matrix}
use Rattle.model.specs.declared.relation.Relation.{Relation}
use Rattle.model.specs.declared.relation.Relation.TheVariants.{Unrelated, Customer, Peer, Provider}
use Rattle.wire.specs.Reading.{input, place}
use Rattle.wire.specs.declared.reader.Reader.{Reader}
use Rattle.ties.specs.declared.refusal.Cause.{Cause}
use Rattle.ties.specs.declared.refusal.Cause.TheVariants.{NoSuchNetwork, NotRising, SamePair, PeersTurned, Itself}
use Rattle.ties.specs.declared.tie.Head.{Head}
use Rattle.ties.specs.declared.tie.Tie.{Tie}
use Rattle.ties.specs.Faults.{head_checks, rises, tie_checks_at}
use Rattle.ties.specs.File.{networks, ties}
use Rattle.ties.specs.Kind.{meant}

-- the head is read, and has no fault
abbrev pub HeadRead : ℕ → Reader → Reader → Head → Type 0
HeadRead most old new head =
    (first_fault (head_checks most (input old)) ≡ None)
    × (head.networks ≡ networks (input old))
    × (head.ties ≡ ties (input old))
    × (place new ≡ 4)

-- the pair a, b comes after the last tie, if there is one
abbrev pub ordered : Option Tie → ℕ → ℕ → Bool
ordered None a b = true
ordered (Some t) a b = rises t.first t.second a b

-- what may be wrong with the tie at place p, after those of a table, of which the last is given
abbrev pub next_checks : List ℕ → ℕ → Matrix → Option Tie → Checks Cause
next_checks bs p m last =
    let a : ℕ = slice_index_or bs p 0 in
    let b : ℕ = slice_index_or bs (p + 1) 0 in
    tie_checks_at (count m) bs p (ordered last a b) (related (rel m a b))

-- the tie is read, and has no fault
abbrev pub TieRead : Matrix → Option Tie → Reader → Reader → Tie → Type 0
TieRead m last old new tie =
    (first_fault (next_checks (input old) (place old) m last) ≡ None)
    × (tie.first ≡ slice_index (input old) (place old))
    × (tie.second ≡ slice_index (input old) (place old + 1))
    × (tie.relation ≡ meant (slice_index (input old) (place old + 2)))
    × (place new ≡ place old + 3)

abbrev pub is_peer : Relation → Bool
is_peer Unrelated = false
is_peer Customer = false
is_peer Peer = true
is_peer Provider = false

-- what may be wrong with a tie that is whole and of a known kind, after those of a table, of which the last is given
abbrev pub pair_checks : Matrix → Option Tie → Tie → Checks Cause
pair_checks m last t =
    (NoSuchNetwork, nat_le (count m) t.first || nat_le (count m) t.second) ∷
    (NotRising, not (ordered last t.first t.second)) ∷
    (SamePair, related (rel m t.first t.second)) ∷
    (PeersTurned, is_peer t.relation && nat_lt t.second t.first) ∷
    (Itself, t.first == t.second) ∷
    []
