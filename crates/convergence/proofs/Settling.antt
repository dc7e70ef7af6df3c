-- What goes over the channels settles level by level, to the same from every start. Assumes nothing.
use Rattle.std.proofs.Common.{◌≡◌, ℕ, zero, suc, ◌<◌, ◌≤◌, Bool, sym, ap, ◌∙◌, arith}
use Rattle.convergence.specs.Channels.{System, Lawful, channel, next}

-- one routing after another, each what the networks go by if they look at the one before
abbrev pub Sequence : {S C : Type 0} → System S C → (ℕ → ℕ → Bool) → (ℕ → ℕ → C) → Type 0
Sequence y up a = (m i : ℕ) → i < y.n → a (suc m) i ≡ next y up (a m) i

module _ {S C : Type 0} (y : System S C) (lawful : Lawful y) (up : ℕ → ℕ → Bool) (a e : ℕ → ℕ → C) (f : Sequence y up a) (g : Sequence y up e) where
  -- a channel of a level below m carries the same after m looks, and after more, from any start
  pub same_channel : (m l i k : ℕ) → i < y.n → k < y.n → y.level i k < m → y.level i k < l → channel y up (a m) i k ≡ channel y up (e l) i k
  same_channel zero l i k hi hk p q = absurd (omega arith)
  same_channel (suc m) zero i k hi hk p q = absurd (omega arith)
  same_channel (suc m) (suc l) i k hi hk p q =
      ap (y.tell (up i) i k) (f m i hi) ∙
      lawful.law (up i) i k _ _ hi hk (λ j hj lower. same_channel m l j i hj hi (omega arith) (omega arith)) ∙
      ap (y.tell (up i) i k) (sym (g l i hi))

  pub same_choice : (m l i : ℕ) → i < y.n → y.most ≤ m → y.most ≤ l → a (suc m) i ≡ e (suc l) i
  same_choice m l i hi p q =
      f m i hi ∙
      lawful.all (up i) i _ _ hi (λ j hj. let low = lawful.low j i hj hi in same_channel m l j i hj hi (omega arith) (omega arith)) ∙
      sym (g l i hi)
