-- Of blocks in order no two share an address. Assumes nothing.
use Rattle.std.proofs.Common.{◌≡◌, ℕ, zero, suc, ◌<◌, false, max, List, length, get_or, ap, ⊎_elim, arith}
use Rattle.std.proofs.lemmas.Bool.{cases_lt, leb-true, le-leb}
use Rattle.std.proofs.lemmas.Bool.Decides.{nat_tests}
use Rattle.blocks.specs.Ranges.{Orderly}
use Rattle.blocks.specs.Fit.{share}
use Rattle.blocks.specs.Laws.{NoneShared, Sharing}

-- an earlier one ends before a later begins
pub ends_before : (firsts lasts : List ℕ) → Orderly firsts lasts → (k b : ℕ) → b < k → k < length firsts → get_or lasts b 0 < get_or firsts k 0
ends_before firsts lasts o zero b p q = absurd (omega arith)
ends_before firsts lasts o (suc k) b p q = ⊎_elim
    (λ below. omega (arith, ends_before firsts lasts o k b below (omega arith), o.each k (omega arith), o.apart k q))
    (λ above. let same : b ≡ k = omega arith in omega (arith, ap (λ i. get_or lasts i 0) same, o.apart k q))
    (cases_lt b k)

pub share_none : (first last first' last' : ℕ) → last < first' → share first last first' last' ≡ false
share_none first last first' last' h = grind (arith, nat_tests)

share_none' : (first last first' last' : ℕ) → last' < first → share first last first' last' ≡ false
share_none' first last first' last' h = grind (arith, nat_tests)

pub none_shared : NoneShared
none_shared firsts lasts b c o p q ne = ⊎_elim
    (λ l. share_none _ _ _ _ (ends_before firsts lasts o c b l q))
    (λ l. share_none' _ _ _ _ (ends_before firsts lasts o b c (omega (arith, ne)) p))
    (cases_lt b c)

pub sharing : Sharing
sharing first last first' last' = (
  λ e. let h = leb-true _ _ e in (max first first', omega arith, omega arith, omega arith, omega arith),
  λ s. le-leb _ _ (omega (arith, s.1, s.2, s.3, s.4)),
)
