-- What the first blocks say, one after the other. Assumes nothing.
use Rattle.std.proofs.Common.{◌≡◌, ℕ, zero, suc, ◌<◌, [], ◌∷◌, ◌++◌, length, get_or, refl, sym, ap, ◌∙◌, ⊎_elim, arith}
use Rattle.std.proofs.lemmas.Bool.{cases_lt}
use Rattle.std.proofs.lemmas.List.{length_push, get_or_push, get_or_append_left}
use Rattle.blocks.specs.File.{each}

module _ (said : ℕ → ℕ) where
  pub length_each : (k : ℕ) → length (each said k) ≡ k
  unfolding each
  length_each zero = refl
  length_each (suc k) = omega (arith, length_push (each said k) (said k), length_each k)

  pub each_at : (k j : ℕ) → j < k → get_or (each said k) j 0 ≡ said j
  unfolding each
  each_at zero j h = absurd (omega arith)
  each_at (suc k) j h = ⊎_elim
      (λ l. get_or_append_left (each said k) (said k ∷ []) 0 j (omega (arith, length_each k)) ∙ each_at k j l)
      (λ l. let same : j ≡ k = omega arith in get_or_push (each said k) (said k) 0 j (length_each k ∙ sym same) ∙ ap said (sym same))
      (cases_lt j k)

  pub each_none : each said 0 ≡ []
  unfolding each
  each_none = refl

  pub each_more : (k : ℕ) → each said (suc k) ≡ each said k ++ said k ∷ []
  unfolding each
  each_more k = refl
