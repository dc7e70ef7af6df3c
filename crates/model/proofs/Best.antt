-- What is best by a neighbour is what that neighbour says. Assumes nothing.
use Rattle.std.proofs.Common.{◌≡◌, ℕ, zero, suc, ◌<◌, Some, None, refl, subst, arith}
use Rattle.std.proofs.lemmas.Bool.{cond_both}
use Rattle.model.specs.Paths.{Path}
use Rattle.model.specs.Ports.{Port}
use Rattle.model.specs.Selection.{Said, Choice, nothing, local, via, Order, better, best}

-- what is chosen by a neighbour below n is what it says
abbrev Held : (Port → Said) → ℕ → Choice → Type 0
Held says n nothing = Unit {0}
Held says n local = Unit {0}
Held says n (via j p) = (j < n) × (says j ≡ Some p)

held_more : (first : Order) (says : Port → Said) (n : ℕ) (o : Said) (b : Choice) → says n ≡ o → Held says n b → Held says (suc n) (better first b n o)
held_more first says n None nothing e h = tt
held_more first says n None local e h = tt
held_more first says n None (via j q) e h = (omega arith, h.1)
held_more first says n (Some p) nothing e h = (omega arith, e)
held_more first says n (Some p) local e h = (omega arith, e)
held_more first says n (Some p) (via j q) e h =
    cond_both (first n p j q) (via n p) (via j q) (Held says (suc n)) (λ _. (omega arith, e)) (λ _. (omega arith, h.1))

best_held : (first : Order) (says : Port → Said) (n : ℕ) → Held says n (best first says n)
best_held first says zero = tt
best_held first says (suc n) = held_more first says n (says n) (best first says n) refl (best_held first says n)

pub held : (first : Order) (says : Port → Said) (n j : ℕ) (p : Path) → best first says n ≡ via j p → (j < n) × (says j ≡ Some p)
held first says n j p e = subst (Held says n) e (best_held first says n)
