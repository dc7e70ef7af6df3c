-- The networks at the beginning, each at its place. Assumes nothing.
use Rattle.std.proofs.Common.{◌≡◌, ℕ, zero, suc, ◌<◌, List, [], ◌∷◌, map, length, get_or, vec_items, vec_len, Vec, Option, Some, None, Result, Ok, Err, sym, refl, ap, ◌∙◌, subst, arith}
use Rattle.model.specs.Run.{begin}
use Rattle.model.specs.Local.{silent}
use Rattle.links.specs.declared.creation_error.CreationError.{CreationError}
use Rattle.simulation.specs.Whole.{blocks_in, local, local_at, number_of, whole}
use Rattle.simulation.specs.declared.network.Network.{Network}
use Rattle.std.specs.Option.{IfSome, IsSomeAnd, IsSomeRelated}
use Rattle.std.specs.Result.{MatchResult}
use Rattle.std.specs.declared.alloc.Global.{Global}
use Rattle.simulation.specs.Beginning.{AllFresh, Fresh}

-- each network has at its place what it should
pub all_at : {X : Type 0} (f : Network → X) (xs : List Network) (d : ℕ → X) → ((k : ℕ) (x : Network) → k < length xs → f (get_or xs k x) ≡ d k) → (i : ℕ) → get_or (map f xs) i (d i) ≡ d i
all_at f [] d h i = refl
all_at f (x ∷ xs) d h zero = h 0 x (omega arith)
all_at f (x ∷ xs) d h (suc i) = all_at f xs (λ k. d (suc k)) (λ k y l. h (suc k) y (omega (arith, l))) i

-- the networks that were made, one of each number
module _ (blocks : ℕ) (Why : CreationError → Type 0) (at : ℕ → Option (Result Network CreationError)) (made : (k : ℕ) → IfSome (at k) (λ y. MatchResult y (Fresh k blocks) Why)) where
  fresh_at : (k : ℕ) (x : Network) → IsSomeRelated (λ y z. Ok z ≡ y) (at k) x → Fresh k blocks x
  fresh_at k x h = by (at k) h (made k)
    where
      by : (o : Option (Result Network CreationError)) → IsSomeRelated (λ y z. Ok z ≡ y) o x → IfSome o (λ y. MatchResult y (Fresh k blocks) Why) → Fresh k blocks x
      by None h m = absurd h
      by (Some y) h m = subst (λ r. MatchResult r (Fresh k blocks) Why) {x = y} {y = Ok x} (sym h) m

  pub all_fresh : (v : Vec Network Global) (xs : List Network) (len n : ℕ) → (vec_items v ≡ xs) × (vec_len v ≡ length xs) → length xs ≡ len → len ≡ n → ((k : ℕ) (x : Network) → k < len → IsSomeRelated (λ y z. Ok z ≡ y) (at k) (get_or xs k x)) → AllFresh n blocks v
  all_fresh v xs len n held long whole each =
      let here : (k : ℕ) (x : Network) → k < length (vec_items v) → Fresh k blocks (get_or (vec_items v) k x) = λ k x l. subst (λ zs. Fresh k blocks (get_or zs k x)) (sym held.0) (fresh_at k _ (each k x (omega (arith, l, long, ap length held.0)))) in (
        held.1 ∙ long ∙ whole,
        all_at number_of (vec_items v) (λ i. i) (λ k x l. (here k x l).0),
        all_at blocks_in (vec_items v) (λ i. blocks) (λ k x l. (here k x l).1),
        all_at local (vec_items v) (λ i. silent) (λ k x l. (here k x l).2),
      )

  pub why_at : (k : ℕ) (e : CreationError) → IsSomeAnd (at k) (λ y. Err e ≡ y) → Why e
  why_at k e h = by (at k) h (made k)
    where
      by : (o : Option (Result Network CreationError)) → IsSomeAnd o (λ y. Err e ≡ y) → IfSome o (λ y. MatchResult y (Fresh k blocks) Why) → Why e
      by None h m = absurd h
      by (Some y) h m = subst (λ r. MatchResult r (Fresh k blocks) Why) {x = y} {y = Err e} (sym h) m

pub begins_silent : (xs : List Network) → ((i : ℕ) → local_at xs i ≡ silent) → whole xs [] ≡ begin
begins_silent xs h = λ x. record { locals = λ i. h i x; flight = λ i j. [] }
