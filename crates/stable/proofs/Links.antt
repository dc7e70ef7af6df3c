-- Sets of links: with none in it, and with one link turned. Assumes nothing.
use Rattle.std.proofs.Common.{◌≡◌, ℕ, zero, suc, ◌<◌, Bool, cond, ◌&&◌, ◌||◌, eqb, [], length, replicate, set, get_or, min, max, nat_lt, refl, ap, ◌∙◌, arith}
use Rattle.std.specs.List.{slice_get}
use Rattle.std.proofs.lemmas.Bool.Decides.{nat_tests}
use Rattle.std.proofs.lemmas.List.{get_or_default}
use Rattle.std.proofs.lemmas.Option.{slice_get_read}
use Rattle.model.specs.declared.limits.TheConstants.{MOST_NETWORKS}
use Rattle.selection.specs.Sets.{member}
use Rattle.selection.specs.declared.set.NetworkSet.{NetworkSet}
use Rattle.selection.proofs.Written.{slice_get-set}
use Rattle.stable.specs.Linked.{in_some, up, with_link}
use Rattle.stable.specs.declared.linked.LinkSet.{LinkSet}

-- each of n places holds the same set
pub all_linked : (n : ℕ) (s : NetworkSet) (i j : ℕ) → in_some (slice_get (replicate n s) i) j ≡ (nat_lt i n && member s j)
all_linked zero s i j = grind (arith, nat_tests)
all_linked (suc n) s zero j = grind (arith, nat_tests)
all_linked (suc n) s (suc i) j = let e = all_linked n s i j in grind (arith, nat_tests, e)

-- both ends say the same
pub same_ends : (s : LinkSet) (i j : ℕ) → up s i j ≡ up s j i
same_ends s i j = let a : min i j ≡ min j i = omega arith in let b : max i j ≡ max j i = omega arith in ap (λ x. in_some (slice_get s.higher x) (max i j)) a ∙ ap (λ x. in_some (slice_get s.higher (min j i)) x) b

-- two links are one if they have the same ends
same_pair : (a b i j : ℕ) → ((eqb a i && eqb b j) || (eqb a j && eqb b i)) ≡ (eqb (min a b) (min i j) && eqb (max a b) (max i j))
same_pair a b i j = grind (arith, nat_tests)

-- one link has turned
pub one_turned : (s : LinkSet) (i j m k : ℕ) (is_up : Bool) (new : NetworkSet) → m ≡ min i j → k ≡ max i j → i < MOST_NETWORKS → j < MOST_NETWORKS → ((v : ℕ) → member new v ≡ cond (eqb v k && nat_lt k MOST_NETWORKS) is_up (member (get_or s.higher m (record { marks = [] })) v)) → (a b : ℕ) → in_some (slice_get (set s.higher m new) (min a b)) (max a b) ≡ with_link (up s) i j is_up a b
one_turned s i j m k is_up new low high hi hj is a b =
    let at : m < length s.higher = omega (arith, s.full) in
    let here = slice_get_read s.higher (length s.higher) m _ refl at (get_or_default s.higher m (record { marks = [] }) _ at) in
    let f = slice_get-set s.higher m (min a b) new at in
    let g = is (max a b) in
    let p = same_pair a b i j in
    grind (arith, nat_tests, here, f, g, p)
