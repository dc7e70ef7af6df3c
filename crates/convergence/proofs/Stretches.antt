-- Looking in any order settles, if every network looks in each of enough stretches. Assumes nothing.
use Rattle.std.proofs.Common.{◌≡◌, ℕ, suc, ◌+◌, ◌<◌, Bool, List, [], ◌∷◌, length, sym, ap, ◌∙◌, subst, ⊎_elim, arith}
use Rattle.std.specs.List.{AllByRecursion}
use Rattle.std.proofs.lemmas.Bool.{cond_both, cond-true}
use Rattle.model.specs.PromiseLaws.{Looks}
use Rattle.convergence.specs.Channels.{System, Lawful, channel, next, looked, after_looks, after_stretches}

-- what each look keeps, and what a look gives a network that stays with it, a stretch gives every network that looks in it
module _ {C : Type 0} (n : ℕ) (look : (ℕ → C) → ℕ → C) (Before : (ℕ → C) → Type 0) (Good : ℕ → C → Type 0) (keeps : (who : ℕ → Bool) (a : ℕ → C) → Before a → Before (looked look who a)) (gains : (a : ℕ → C) (i : ℕ) → i < n → Before a → Good i (look a i)) where
  stays : (stretch : List (ℕ → Bool)) (a : ℕ → C) (i : ℕ) → i < n → Before a → Good i (a i) → Good i (after_looks look stretch a i)
  stays [] a i hi h g = g
  stays (who ∷ later) a i hi h g =
      stays later (looked look who a) i hi (keeps who a h) (cond_both (who i) (look a i) (a i) (Good i) (λ _. gains a i hi h) (λ _. g))

  comes : (stretch : List (ℕ → Bool)) (a : ℕ → C) (i : ℕ) → i < n → Before a → Looks i stretch → Good i (after_looks look stretch a i)
  comes [] a i hi h p = absurd p
  comes (who ∷ later) a i hi h p =
      ⊎_elim
      (λ t. stays later (looked look who a) i hi (keeps who a h) (subst (Good i) (sym (cond-true (who i) (look a i) (a i) t)) (gains a i hi h)))
      (λ q. comes later (looked look who a) i hi (keeps who a h) q)
      p

module _ {S C : Type 0} (y : System S C) (lawful : Lawful y) (up : ℕ → ℕ → Bool) (e : ℕ → C) (stable : (i : ℕ) → i < y.n → e i ≡ next y up e i) where
  -- the channels of levels below m carry what they carry in the stable routing
  abbrev Agrees : ℕ → (ℕ → C) → Type 0
  Agrees m a = (i k : ℕ) → i < y.n → k < y.n → y.level i k < m → channel y up a i k ≡ channel y up e i k

  one_more : (m : ℕ) (a : ℕ → C) (i : ℕ) → i < y.n → Agrees m a → (k : ℕ) → k < y.n → y.level i k < suc m → y.tell (up i) i k (next y up a i) ≡ channel y up e i k
  one_more m a i hi h k hk l =
      lawful.law (up i) i k _ _ hi hk (λ j hj lower. h j i hj hi (omega arith)) ∙ ap (y.tell (up i) i k) (sym (stable i hi))

  keeps_agreed : (m : ℕ) (who : ℕ → Bool) (a : ℕ → C) → Agrees m a → Agrees m (looked (next y up) who a)
  keeps_agreed m who a h i k hi hk l =
      cond_both (who i) (next y up a i) (a i) (λ c. y.tell (up i) i k c ≡ channel y up e i k) (λ _. one_more m a i hi h k hk (omega arith)) (λ _. h i k hi hk l)

  a_stretch : (m : ℕ) (stretch : List (ℕ → Bool)) (a : ℕ → C) → ((i : ℕ) → i < y.n → Looks i stretch) → Agrees m a → Agrees (suc m) (after_looks (next y up) stretch a)
  a_stretch m stretch a fair h i k hi hk l =
      comes y.n (next y up) (Agrees m) (λ i c. (k : ℕ) → k < y.n → y.level i k < suc m → y.tell (up i) i k c ≡ channel y up e i k)
      (keeps_agreed m) (λ a i hi h. one_more m a i hi h) stretch a i hi h (fair i hi) k hk l

  the_last : (stretch : List (ℕ → Bool)) (a : ℕ → C) → ((i : ℕ) → i < y.n → Looks i stretch) → Agrees y.most a → (i : ℕ) → i < y.n → after_looks (next y up) stretch a i ≡ e i
  the_last stretch a fair h i hi =
      comes y.n (next y up) (Agrees y.most) (λ i c. c ≡ e i) (keeps_agreed y.most)
      (λ a i hi h. lawful.all (up i) i _ _ hi (λ j hj. h j i hj hi (lawful.low j i hj hi)) ∙ sym (stable i hi))
      stretch a i hi h (fair i hi)

  pub stretches_settle : (stretch : List (ℕ → Bool)) (later : List (List (ℕ → Bool))) (m : ℕ) (a : ℕ → C) → ((i : ℕ) → i < y.n → Looks i stretch) → AllByRecursion (λ s. (i : ℕ) → i < y.n → Looks i s) later → m + length later ≡ y.most → Agrees m a → (i : ℕ) → i < y.n → after_stretches (next y up) (stretch ∷ later) a i ≡ e i
  stretches_settle stretch [] m a fair fairs long h i hi = the_last stretch a fair (λ i k hi hk l. h i k hi hk (omega arith)) i hi
  stretches_settle stretch (s ∷ later) m a fair fairs long h i hi =
      stretches_settle s later (suc m) (after_looks (next y up) stretch a) fairs.0 fairs.1 (omega arith) (a_stretch m stretch a fair h) i hi
