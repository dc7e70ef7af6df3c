-- Bytes that were read and are not yet taken.
use Rattle.std.specs.Prelude.{◌≡◌, ℕ, ◌+◌, ◌-◌, ◌<◌, ◌≤◌, List, ◌++◌, length, drop, take, vec_items, vec_len, MatchResult, None, Some, Option, Result, ⊤}
use Rattle.std.specs.Io.KnownBytes.{Consumes, IsAtEnd, Keeps}
use Rattle.village_box.specs.declared.inbox.TheConstants.{BUFFER}
use Rattle.village_box.specs.declared.inbox.Inbox.{Inbox}

-- they lie within a buffer of fixed size
abbrev pub Sound : Inbox → Type 0
Sound b = (b.start ≤ b.end) × (b.end ≤ vec_len b.bytes) × (vec_len b.bytes ≡ BUFFER)

abbrev pub left : Inbox → List ℕ
left b = take (b.end - b.start) (drop b.start (vec_items b.bytes))

-- what was left, and then what the reader had, is what is left now, and then what the reader has
abbrev pub Gained : List ℕ → Option (List ℕ) → List ℕ → Option (List ℕ) → Type 0
Gained was None is now = ⊤
Gained was (Some xs) is None = ⊥
Gained was (Some xs) is (Some ys) = is ++ ys ≡ was ++ xs

-- what came stands in the buffer from a place on; nothing comes to a place before the end of it only at the end of the
-- input
abbrev pub ReadBehind :
    {E : Type 0} → Option (List ℕ) → Option (List ℕ) → ℕ → List ℕ → List ℕ → Result ℕ E → Type 0
ReadBehind had has place was is r =
    MatchResult r
    (λ n.
    (place + n ≤ length was) × Consumes had has (take n (drop place is)) ×
    (n ≡ 0 → place < length was → IsAtEnd has))
    (λ _. Keeps had has)
