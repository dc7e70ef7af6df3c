-- Sound ties give every network a height. Assumes nothing.
use Rattle.std.proofs.Common.{◌≡◌, ℕ, ◌<◌, cond, not, ◌&&◌, eqb, ltb, List, [], ◌∷◌, ap, ◌∙◌, ⊎_elim, arith}
use Rattle.std.specs.List.{AllByRecursion}
use Rattle.std.proofs.lemmas.Bool.{cases_eq}
use Rattle.std.proofs.lemmas.Bool.Decides.{nat_tests}
use Rattle.model.specs.Relations.{Between, opposite, Mutual, Apart, Within}
use Rattle.model.specs.Cycles.{Chain, NoCycle}
use Rattle.model.specs.Heights.{Height}
use Rattle.model.specs.declared.relation.Relation.{Relation}
use Rattle.model.specs.declared.relation.Relation.TheVariants.{Unrelated, Customer, Provider}
use Rattle.model.proofs.Reach.{heights}
use Rattle.model.specs.World.{World, Sound}
use Rattle.model.specs.Levels.{Heights, HeightsExist}

module _ (w : World) (sound : Sound w) where
  -- the ties between two different networks below n
  abbrev tied : Between
  tied i j = cond (ltb i w.n && ltb j w.n && not (eqb i j)) (w.rel i j) Unrelated

  mutual_ties : Mutual tied
  mutual_ties i j = let b = sound.both i j in grind (arith, nat_tests)

  apart_ties : Apart tied
  apart_ties i = grind (arith, nat_tests)

  within_ties : Within w.n tied
  within_ties i j h = grind (arith, nat_tests)

  tied_below : (i j : ℕ) → tied i j ≡ Provider → (i < w.n) × (j < w.n) × (w.rel i j ≡ Provider)
  tied_below i j e = grind (arith, nat_tests)

  chain_below : (i : ℕ) (xs : List ℕ) (j : ℕ) → Chain tied i xs j → (i < w.n) × AllByRecursion (λ x. x < w.n) xs × Chain w.rel i xs j
  chain_below i [] j c = let b = tied_below i j c in (b.0, tt, b.2)
  chain_below i (x ∷ xs) j c = let b = tied_below i x c.0 in let r = chain_below x xs j c.1 in (b.0, (r.0, r.1), (b.2, r.2))

  no_cycle : NoCycle tied
  no_cycle [] c = c
  no_cycle (x ∷ xs) c = let r = chain_below x xs x c in sound.acyclic (x ∷ xs) (r.0, r.1) r.2

  standing : Height w.n tied
  standing = heights w.n tied mutual_ties apart_ties within_ties no_cycle

  not_own : (r : Relation) → r ≡ opposite r → r ≡ Customer → ⊥
  not_own r e f = let z : ◌≡◌ {A = ℕ} 0 1 = cc in omega arith

  height_falls : (i j : ℕ) → i < w.n → j < w.n → w.rel i j ≡ Customer → standing.height j < standing.height i
  height_falls i j hi hj e =
      ⊎_elim
      (λ same. absurd (not_own (w.rel i i) (sound.both i i hi hi) (ap (w.rel i) same ∙ e)))
      (λ other. standing.falls i j (grind (arith, nat_tests)))
      (cases_eq i j)

  pub height : ℕ → ℕ
  height = standing.height

  pub height_stands : Heights w height
  unfolding height
  height_stands = record { within = standing.within; falls = height_falls }

pub heights_exist : HeightsExist
heights_exist w sound = (height w sound, height_stands w sound)
