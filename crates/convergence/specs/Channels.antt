-- Networks that select from what they are told and tell it on, over channels with levels, and the one law that makes
-- the telling settle: what goes over a channel depends only on what came over channels of lower level. Assumes nothing.
use Rattle.std.specs.Prelude.{◌≡◌, ℕ, ◌<◌, Bool, cond, List, [], ◌∷◌}

-- n networks that say things of S and go by things of C: what network i selects, from which of its links are up and
-- what each neighbour said, and what it then tells neighbour k; `level i k` is the level of the channel from i to k
pub record System (S C : Type 0) : Type 0 where
  pub n : ℕ
  pub most : ℕ
  pub level : ℕ → ℕ → ℕ
  pub select : (ℕ → Bool) → ℕ → (ℕ → S) → C
  pub tell : (ℕ → Bool) → ℕ → ℕ → C → S

-- all levels are below `most`; what is told depends only on what came over channels of lower level, and what is
-- selected only on what came from networks below n
pub record Lawful {S C : Type 0} (y : System S C) : Type 0 where
  pub low : (i k : ℕ) → i < y.n → k < y.n → y.level i k < y.most
  pub law : (up : ℕ → Bool) (i k : ℕ) (r q : ℕ → S) → i < y.n → k < y.n →
      ((j : ℕ) → j < y.n → y.level j i < y.level i k → r j ≡ q j) →
      y.tell up i k (y.select up i r) ≡ y.tell up i k (y.select up i q)
  pub all : (up : ℕ → Bool) (i : ℕ) (r q : ℕ → S) → i < y.n → ((j : ℕ) → j < y.n → r j ≡ q j) →
      y.select up i r ≡ y.select up i q

-- what goes over the channel from i to k, if each network goes by what `a` has for it
abbrev pub channel : {S C : Type 0} → System S C → (ℕ → ℕ → Bool) → (ℕ → C) → ℕ → ℕ → S
channel y up a i k = y.tell (up i) i k (a i)

-- what network i would go by if it looked
abbrev pub next : {S C : Type 0} → System S C → (ℕ → ℕ → Bool) → (ℕ → C) → ℕ → C
next y up a i = y.select (up i) i (λ j. channel y up a j i)

-- some networks look at once, the others stay as they are
abbrev pub looked : {C : Type 0} → ((ℕ → C) → ℕ → C) → (ℕ → Bool) → (ℕ → C) → ℕ → C
looked look who a i = cond (who i) (look a i) (a i)

-- one look after the other, each by some networks; and stretches of these
abbrev pub after_looks : {C : Type 0} → ((ℕ → C) → ℕ → C) → List (ℕ → Bool) → (ℕ → C) → ℕ → C
after_looks look [] a = a
after_looks look (who ∷ later) a = after_looks look later (looked look who a)

abbrev pub after_stretches : {C : Type 0} → ((ℕ → C) → ℕ → C) → List (List (ℕ → Bool)) → (ℕ → C) → ℕ → C
after_stretches look [] a = a
after_stretches look (stretch ∷ later) a = after_stretches look later (after_looks look stretch a)
