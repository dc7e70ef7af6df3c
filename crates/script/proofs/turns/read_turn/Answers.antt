-- The third word says nothing, or a word follows it.
use Rattle.std.proofs.Common.{◌≡◌, ℕ, Bool, true, List, ◌∷◌, is_some, Some, None, Err, slice_get, refl, sym, ap, ◌∙◌}
use Rattle.std.proofs.lemmas.Result.{err_from_is_err_and}
use Rattle.script.specs.declared.cause.Cause.TheVariants.{SurplusWord, UnknownWord}
use Rattle.script.specs.Faults.{standing}
use Rattle.script.specs.Turns.{read_turn}
use Rattle.script.proofs.turns.read_turn.Goals as goal

module _ (n : ℕ) (w v s : List ℕ) where
  unknown : (ws : List (List ℕ)) → standing s ≡ None → read_turn n (w ∷ v ∷ s ∷ ws) ≡ Err UnknownWord
  unknown ws e = rw e refl

  surplus : (up : Bool) (ws : List (List ℕ)) → standing s ≡ Some up → is_some (slice_get ws 0) ≡ true → read_turn n (w ∷ v ∷ s ∷ ws) ≡ Err SurplusWord
  surplus up ws e some = rw (e, some) refl

three : {w v s : List ℕ} {l m k ws : List (List ℕ)} → l ≡ w ∷ m → m ≡ v ∷ k → k ≡ s ∷ ws → w ∷ v ∷ s ∷ ws ≡ l
three {w} {v} e f g = sym (e ∙ ap (λ m. w ∷ m) (f ∙ ap (λ k. v ∷ k) g))

pub returns-in_err-up : goal.returns-in_err-up
returns-in_err-up c =
    let p = err_from_is_err_and c.from_residual-in_err-up.result c.from_residual-in_err-up.ensures.1 in
    p.1 ∙ ap (λ e. Err e) (p.2 ∙ c.in_err-up.ensures.0) ∙
    sym (unknown c.args.networks _ _ c.in_ok-standing.standing.now _ c.in_err-up.ensures.1) ∙
    ap (read_turn c.args.networks) (three c.in_ok-first.ensures c.in_ok-second.ensures c.in_ok-standing.ensures)

pub returns-in_err-no_more : goal.returns-in_err-no_more
returns-in_err-no_more c =
    let p = err_from_is_err_and c.from_residual-in_err-no_more.result c.from_residual-in_err-no_more.ensures.1 in
    p.1 ∙ ap (λ e. Err e) (p.2 ∙ c.in_err-no_more.ensures.0) ∙
    sym (surplus c.args.networks _ _ c.in_ok-standing.standing.now c.in_ok-up.up _ c.in_ok-up.ensures c.in_err-no_more.ensures.1) ∙
    ap (read_turn c.args.networks) (three c.in_ok-first.ensures c.in_ok-second.ensures c.in_ok-standing.ensures)
