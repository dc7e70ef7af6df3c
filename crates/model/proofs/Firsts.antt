-- Where no element passes a test. Assumes nothing.
use Rattle.std.proofs.Common.{◌≡◌, Bool, false, List, [], ◌∷◌, None, arith}
use Rattle.std.specs.List.{AllByRecursion, find}
use Rattle.std.proofs.lemmas.Bool.Decides.{nat_tests}

pub none_of : {X : Type 0} (has : X → Bool) (xs : List X) → find has xs ≡ None → AllByRecursion (λ x. has x ≡ false) xs
none_of has [] e = tt
none_of has (x ∷ xs) e = let h : (has x ≡ false) × (find has xs ≡ None) = grind (arith, nat_tests) in (h.0, none_of has xs h.1)
