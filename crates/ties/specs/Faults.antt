-- What may be wrong with each thing of a ties file, in the order in which it is told, and which fault is the first.
-- Assumes nothing.
use Rattle.std.specs.Prelude.{◌≡◌, ℕ, zero, suc, ◌+◌, ◌*◌, ◌<◌, Bool, true, false, not, ◌&&◌, ◌||◌, List, [], ◌∷◌, length, Some, None, ◌==◌, nat_le, nat_lt, slice_index}
use Rattle.model.specs.Checks.{Checks, first_fault}
use Rattle.model.specs.declared.limits.TheConstants.{MOST_NETWORKS as MOST}
use Rattle.ties.specs.declared.encoder.TheConstants.{TIES}
use Rattle.ties.specs.declared.kind.Kind.TheVariants.{Peers}
use Rattle.ties.specs.declared.refusal.Cause.{Cause}
use Rattle.ties.specs.declared.refusal.Cause.TheVariants.{UnknownKind, Cut, Surplus, NoSuchNetwork, BadCount, NotRising, SamePair, PeersTurned, Itself, TooMany}
use Rattle.ties.specs.declared.refusal.Place.{Place}
use Rattle.ties.specs.declared.refusal.Place.TheVariants.{Head, Tie, End}
use Rattle.ties.specs.File.{networks, ties, first, second}
use Rattle.ties.specs.Kind.{byte, is_kind}

-- the second pair comes after the first
abbrev pub rises : ℕ → ℕ → ℕ → ℕ → Bool
rises a b c d = nat_lt a c || (a == c && nat_lt b d)

-- one pair, in either order
abbrev pub same_pair : ℕ → ℕ → ℕ → ℕ → Bool
same_pair a b c d = (a == c && b == d) || (a == d && b == c)

-- one of the first k ties is of the networks a and b
unfoldable pub paired : List ℕ → ℕ → ℕ → ℕ → Bool
paired bs a b zero = false
paired bs a b (suc k) = same_pair (first bs k) (second bs k) a b || paired bs a b k

-- the pair a, b comes after tie k - 1, if there is one
abbrev pub comes_after : List ℕ → ℕ → ℕ → ℕ → Bool
comes_after bs zero a b = true
comes_after bs (suc k) a b = rises (first bs k) (second bs k) a b

-- of the head, where the caller allows `most` networks
abbrev pub head_checks : ℕ → List ℕ → Checks Cause
head_checks most bs =
    (UnknownKind, nat_lt 0 (length bs) && not (slice_index bs 0 == TIES)) ∷
    (Cut, nat_lt (length bs) 4) ∷
    (BadCount, networks bs == 0 || nat_lt MOST (networks bs)) ∷
    (TooMany, nat_lt most (networks bs)) ∷
    []

-- of a tie at place p of the bytes, among n networks: is it in order, and is an earlier one of its pair
abbrev pub tie_checks_at : ℕ → List ℕ → ℕ → Bool → Bool → Checks Cause
tie_checks_at n bs p ordered twice =
    (UnknownKind, nat_lt (p + 2) (length bs) && not (is_kind (slice_index bs (p + 2)))) ∷
    (Cut, nat_le (length bs) (p + 2)) ∷
    (NoSuchNetwork, nat_le n (slice_index bs p) || nat_le n (slice_index bs (p + 1))) ∷
    (NotRising, not ordered) ∷
    (SamePair, twice) ∷
    (PeersTurned, slice_index bs (p + 2) == byte Peers && nat_lt (slice_index bs (p + 1)) (slice_index bs p)) ∷
    (Itself, slice_index bs p == slice_index bs (p + 1)) ∷
    []

-- of tie k
abbrev pub tie_checks : List ℕ → ℕ → Checks Cause
tie_checks bs k =
    let in_order : Bool = comes_after bs k (first bs k) (second bs k) in
    let twice : Bool = paired bs (first bs k) (second bs k) k in
    tie_checks_at (networks bs) bs (4 + 3 * k) in_order twice

-- of what follows the last tie
abbrev pub end_checks : List ℕ → Checks Cause
end_checks bs = (Surplus, nat_lt (4 + 3 * ties bs) (length bs)) ∷ []

-- of the thing at a place
abbrev pub checks_at : ℕ → List ℕ → Place → Checks Cause
checks_at most bs Head = head_checks most bs
checks_at most bs (Tie k) = tie_checks bs k
checks_at most bs End = end_checks bs

-- the first k ties have no fault
abbrev pub CleanTies : List ℕ → ℕ → Type 0
CleanTies bs k = (m : ℕ) → m < k → first_fault (tie_checks bs m) ≡ None

-- no thing of the file has a fault
pub record Faultless (most : ℕ) (bs : List ℕ) : Type 0 where
  pub head : first_fault (head_checks most bs) ≡ None
  pub each : CleanTies bs (ties bs)
  pub end : first_fault (end_checks bs) ≡ None

-- tie k is the first with a fault
abbrev pub TieFault : List ℕ → ℕ → Cause → Type 0
TieFault bs k c = CleanTies bs k × (k < ties bs) × (first_fault (tie_checks bs k) ≡ Some c)

-- the first thing with a fault, and what is told of it
abbrev pub FirstFault : ℕ → List ℕ → Place → Cause → Type 0
FirstFault most bs Head c = first_fault (head_checks most bs) ≡ Some c
FirstFault most bs (Tie k) c = (first_fault (head_checks most bs) ≡ None) × TieFault bs k c
FirstFault most bs End c =
    (first_fault (head_checks most bs) ≡ None) × CleanTies bs (ties bs) × (first_fault (end_checks bs) ≡ Some c)
