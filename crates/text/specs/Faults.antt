-- The words in which a fault is told. Assumes nothing.
use Rattle.std.specs.Prelude.{ℕ, List, ◌++◌, Some, None, codes, decimal, Option}

-- the number, the place and the cause
abbrev pub fault_words : ℕ → List ℕ → List ℕ → List ℕ
fault_words number place cause =
    codes "fault " ++ (decimal number ++ (codes " at " ++ (place ++ (codes ": " ++ cause))))

-- the words of a fault, where those of its place and its cause are known
abbrev pub fault_output : ℕ → Option (List ℕ) → Option (List ℕ) → Option (List ℕ)
fault_output number None cause = None
fault_output number (Some place) None = None
fault_output number (Some place) (Some cause) = Some (fault_words number place cause)
