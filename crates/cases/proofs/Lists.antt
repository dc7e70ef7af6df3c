-- What holds below a number, from lists that are computed. Assumes nothing.
use Rattle.std.proofs.Common.{◌≡◌, ℕ, zero, suc, ◌<◌, List, [], ◌∷◌, ap, subst, ⊎_elim, arith}
use Rattle.std.proofs.lemmas.Bool.{cases_lt}

-- the values at the numbers below n
abbrev pub values : {X : Type 0} → ℕ → (ℕ → X) → List X
values zero f = []
values (suc n) f = f n ∷ values n f

first : {X : Type 0} → X → List X → X
first d [] = d
first d (x ∷ xs) = x

others : {X : Type 0} → List X → List X
others [] = []
others (x ∷ xs) = xs

first_same : {X : Type 0} (x y : X) (xs ys : List X) → ◌≡◌ {A = List X} (x ∷ xs) (y ∷ ys) → x ≡ y
unfolding first
first_same x y xs ys e = ap (first x) e

others_same : {X : Type 0} (x y : X) (xs ys : List X) → ◌≡◌ {A = List X} (x ∷ xs) (y ∷ ys) → xs ≡ ys
unfolding others
others_same x y xs ys e = ap others e

pub same_below : {X : Type 0} (n : ℕ) (f g : ℕ → X) → values n f ≡ values n g → (i : ℕ) → i < n → f i ≡ g i
same_below zero f g e i h = absurd (omega arith)
same_below (suc n) f g e i h =
    ⊎_elim
    (λ less. same_below n f g (others_same (f n) (g n) (values n f) (values n g) e) i less)
    (λ past. let last : n ≡ i = omega arith in subst (λ k. f k ≡ g k) last (first_same (f n) (g n) (values n f) (values n g) e))
    (cases_lt i n)

-- of pairs of numbers
pub same_below_both : {X : Type 0} (n : ℕ) (f g : ℕ → ℕ → X) → values n (λ i. values n (f i)) ≡ values n (λ i. values n (g i)) → (i j : ℕ) → i < n → j < n → f i j ≡ g i j
same_below_both n f g e i j hi hj = same_below n (f i) (g i) (same_below n (λ i. values n (f i)) (λ i. values n (g i)) e i hi) j hj
