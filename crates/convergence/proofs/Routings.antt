-- The stable routing exists, is the only one, and every order of looking ends at it. Assumes nothing.
use Rattle.std.proofs.Common.{◌≡◌, ℕ, suc, ◌+◌, ◌*◌, ◌<◌, Bool, List, [], ◌∷◌, length, refl, ap, ◌∙◌, add-one, arith}
use Rattle.model.specs.Selection.{Choice, Said}
use Rattle.model.specs.World.{World, Sound}
use Rattle.model.specs.Stable.{Links, Routing, look, looks, stable}
use Rattle.model.specs.Stable as Stable
use Rattle.model.specs.PromiseLaws as Laws
use Rattle.model.specs.PromiseLaws.{Exists, OnlyOne, AnyOrder}
use Rattle.convergence.specs.Channels.{System, Lawful, after_looks, after_stretches}
use Rattle.convergence.specs.Levels.{system}
use Rattle.convergence.proofs.Standing.{height, height_stands}
use Rattle.convergence.proofs.Decided.{lawful}
use Rattle.convergence.proofs.Settling.{same_choice}
use Rattle.convergence.proofs.Stretches.{stretches_settle}

module _ (w : World) (sound : Sound w) (up : Links) (b : ℕ) where
  abbrev ours : System Said Choice
  ours = system w.order w (height w sound) b

  ours_lawful : Lawful ours
  ours_lawful = lawful w sound (height w sound) (height_stands w sound) b

  at_last : (i : ℕ) → stable w up b i ≡ looks (suc (2 * w.n)) w up b i
  at_last i = ap (λ k. looks k w up b i) (add-one (2 * w.n))

  is_stable : Stable.Stable w up b (stable w up b)
  is_stable i hi =
      at_last i ∙
      same_choice ours ours_lawful up (λ k. looks k w up b) (λ k. looks k w up b) (λ m i hi. refl) (λ m i hi. refl) (2 * w.n) (2 * w.n + 1) i hi (omega arith) (omega arith)

  -- stretches of looks, as those of any system
  looks_alike : (stretch : List (ℕ → Bool)) (a : Routing) → Laws.after_looks w up b stretch a ≡ after_looks (look w up b) stretch a
  looks_alike [] a = refl
  looks_alike (who ∷ later) a = looks_alike later (Laws.looked w up b who a)

  stretches_alike : (stretches : List (List (ℕ → Bool))) (a : Routing) → Laws.after_stretches w up b stretches a ≡ after_stretches (look w up b) stretches a
  stretches_alike [] a = refl
  stretches_alike (stretch ∷ later) a = stretches_alike later (Laws.after_looks w up b stretch a) ∙ ap (after_stretches (look w up b) later) (looks_alike stretch a)

  in_order : (stretches : List (List (ℕ → Bool))) (a : Routing) → Laws.Fair w stretches → length stretches ≡ 2 * w.n + 1 → (i : ℕ) → i < w.n → after_stretches (look w up b) stretches a i ≡ stable w up b i
  in_order [] a fair long i hi = absurd (omega arith)
  in_order (stretch ∷ later) a fair long i hi =
      stretches_settle ours ours_lawful up (stable w up b) is_stable stretch later 0 a fair.0 fair.1 (omega arith) (λ i k hi hk l. absurd (omega arith)) i hi

pub exists : Exists
exists w sound up b = is_stable w sound up b

pub only_one : OnlyOne
only_one w sound up b a e f g i hi =
    same_choice (ours w sound up b) (ours_lawful w sound up b) up (λ k. a) (λ k. e) (λ m i hi. f i hi) (λ m i hi. g i hi) (2 * w.n) (2 * w.n) i hi (omega arith) (omega arith)

pub any_order : AnyOrder
any_order w sound up b start stretches fair long i hi =
    (λ x. stretches_alike w sound up b stretches start x i) ∙ in_order w sound up b stretches start fair long i hi
