-- What holds at one element of a range, or of none, said of the numbers. Assumes nothing.
use Rattle.std.proofs.Common.{◌≡◌, ℕ, ◌<◌, length, get_or, Bool, true, false, MatchBool, subst, arith}
use Rattle.std.specs.List.{AllWithin, HoldsAt, range_with_len}
use Rattle.std.proofs.lemmas.List.FromFn.{get_or-range_with_len, length-range_with_len}

at : (n k : ℕ) → k < n → get_or (range_with_len 0 n) k 0 ≡ k
at n k h = let e = get_or-range_with_len 0 n k 0 h in omega (arith, e)

-- some of m numbers passes a test, or none does
pub some_number : (n m : ℕ) (r : Bool) (Yes No : ℕ → Type 0) → n ≡ m → MatchBool r ((k : ℕ) × (k < length (range_with_len 0 n)) × HoldsAt Yes (range_with_len 0 n) k) (AllWithin No (range_with_len 0 n) 0 (length (range_with_len 0 n))) → MatchBool r ((k : ℕ) × (k < m) × Yes k) ((k : ℕ) → k < m → No k)
some_number n m false Yes No e h = λ k a. let l = length-range_with_len 0 n in subst No (at n k (omega arith)) (h k 0 (omega arith) (omega (arith, l)))
some_number n m true Yes No e h = let l = length-range_with_len 0 n in let i : h.0 < n = omega (arith, l, h.1) in (h.0, omega (arith, i), subst Yes (at n h.0 i) (h.2 0))
