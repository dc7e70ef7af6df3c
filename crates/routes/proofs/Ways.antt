-- The line of a network in an account tells what it was made of.
use Rattle.std.proofs.Common.{◌≡◌, ℕ, Bool, true, false, List, ◌++◌, codes, decimal, sym, refl, ◌∙◌, arith}
use Rattle.model.specs.Selection.{Choice, nothing, local, via}
use Rattle.routes.specs.Laws.{Small, LinesTellWays}
use Rattle.routes.proofs.Telling.{differ, number_split, same_tail, stops, tail, tail_is, tail_stops}
use Rattle.routes.specs.Accounts.{network_words}

-- what follows the number of the network
abbrev rest : Choice → Bool → List ℕ
rest nothing true = codes " nothing, unpaid\n"
rest nothing false = codes " nothing, cut off\n"
rest local r = tail local
rest (via j path) r = tail (via j path)

rest_stops : (c : Choice) (r : Bool) → stops (rest c r) ≡ true
rest_stops nothing true = refl
rest_stops nothing false = refl
rest_stops local r = tail_stops local
rest_stops (via j path) r = tail_stops (via j path)

rest_is : (i : ℕ) (c : Choice) (r : Bool) → network_words i c r ≡ decimal i ++ rest c r
rest_is i nothing true = refl
rest_is i nothing false = refl
rest_is i local r = tail_is i local
rest_is i (via j path) r = tail_is i (via j path)

same_rest : (c d : Choice) (r s : Bool) → Small c → Small d → rest c r ≡ rest d s → (c ≡ d) × (c ≡ nothing → r ≡ s)
same_rest nothing nothing true true hc hd e = (refl, λ n. refl)
same_rest nothing nothing true false hc hd e = absurd (differ (rest nothing false) (rest nothing true) 10 (omega arith) (sym e))
same_rest nothing nothing false true hc hd e = absurd (differ (rest nothing false) (rest nothing true) 10 (omega arith) e)
same_rest nothing nothing false false hc hd e = (refl, λ n. refl)
same_rest nothing local true s hc hd e = absurd (differ (tail local) (rest nothing true) 1 (omega arith) (sym e))
same_rest nothing local false s hc hd e = absurd (differ (tail local) (rest nothing false) 1 (omega arith) (sym e))
same_rest nothing (via k q) true s hc hd e = absurd (differ (tail (via k q)) (rest nothing true) 1 (omega arith) (sym e))
same_rest nothing (via k q) false s hc hd e = absurd (differ (tail (via k q)) (rest nothing false) 1 (omega arith) (sym e))
same_rest local nothing r true hc hd e = absurd (differ (tail local) (rest nothing true) 1 (omega arith) e)
same_rest local nothing r false hc hd e = absurd (differ (tail local) (rest nothing false) 1 (omega arith) e)
same_rest local local r s hc hd e = (refl, λ n. cc)
same_rest local (via k q) r s hc hd e = (same_tail local (via k q) hc hd e, λ n. cc)
same_rest (via j p) nothing r true hc hd e = absurd (differ (tail (via j p)) (rest nothing true) 1 (omega arith) e)
same_rest (via j p) nothing r false hc hd e = absurd (differ (tail (via j p)) (rest nothing false) 1 (omega arith) e)
same_rest (via j p) local r s hc hd e = (same_tail (via j p) local hc hd e, λ n. cc)
same_rest (via j p) (via k q) r s hc hd e = (same_tail (via j p) (via k q) hc hd e, λ n. cc)

pub lines_tell : LinesTellWays
lines_tell i k c d r s hi hk hc hd e =
    let split = number_split i k (rest c r) (rest d s) hi hk (rest_stops c r) (rest_stops d s) (sym (rest_is i c r) ∙ e ∙ rest_is k d s) in
    let same = same_rest c d r s hc hd split.1 in
    (split.0, same.0, same.1)
