-- Chains of customers, and the table that they stand in. Assumes nothing.
use Rattle.std.proofs.Common.{◌≡◌, ℕ, ◌<◌, true, false, List, [], ◌∷◌, ◌++◌, refl, ap, ⊎_elim, arith}
use Rattle.std.proofs.lemmas.Bool.{cases_lt}
use Rattle.model.specs.Relations.{Between, Within, provider}
use Rattle.model.specs.Cycles.{Chain}
use Rattle.model.specs.declared.relation.Relation.{Relation}
use Rattle.model.specs.declared.relation.Relation.TheVariants.{Unrelated, Customer, Peer, Provider}

pub is_provider : (x : Relation) → provider x ≡ true → x ≡ Provider
is_provider Unrelated e = cc
is_provider Customer e = cc
is_provider Peer e = cc
is_provider Provider e = refl

pub not_provider : (x : Relation) → provider x ≡ false → x ≡ Provider → ⊥
not_provider x f e = let z : ◌≡◌ {A = ℕ} 0 1 = cc (ap provider e) in omega arith

module _ (rel : Between) where
  pub chain_join : (xs ys : List ℕ) (i m j : ℕ) → Chain rel i xs m → Chain rel m ys j → Chain rel i (xs ++ m ∷ ys) j
  chain_join [] ys i m j c d = (c, d)
  chain_join (x ∷ xs) ys i m j c d = (c.0, chain_join xs ys x m j c.1 d)

  -- who has a provider is one of the networks
  pub among : (n i j : ℕ) → Within n rel → rel i j ≡ Provider → i < n
  among n i j w e = ⊎_elim (λ lt. lt) (λ le. let out = w i j le in let z : ◌≡◌ {A = ℕ} 0 1 = cc in omega arith) (cases_lt i n)
