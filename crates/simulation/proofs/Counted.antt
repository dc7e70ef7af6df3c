-- What is made of the numbers below n, place by place. Assumes nothing.
use Rattle.std.proofs.Common.{◌≡◌, ℕ, ◌+◌, ◌<◌, true, ◌∙◌, Some, None, Option, subst, arith}
use Rattle.std.specs.declared.ops.Range.{Range}
use Rattle.std.proofs.iter.Yields.{nat_range_steps}
use Rattle.std.proofs.iter.runs.Sources.{range_runs}
use denote.Param.Members.{Mut, Called}
use Rattle.std.specs.Option.{IfSome, IsSomeAnd}
use Rattle.std.specs.Iterator.Runs.{CallKeepsClosure, EachRunFrom, IsMapRun, ItemsCountUp, Run, SomeRun}

-- `(0..n).map(f)`: at place k stands what f makes of k
module _ {F B : Type 0} (g : Mut F (ℕ × Unit {0}) B) (f : F) (makes : ℕ → B → Type 0) where
  look : ((k : ℕ) (y : B) → Called g f (k, tt) y f → makes k y) → (k : ℕ) (o : Option B) (q : Option ℕ) (n : ℕ) → IfSome o (λ y. IsSomeAnd q (λ x. Called g f (x, tt) y f)) → IfSome q (λ x. (x ≡ 0 + k) × (x < n)) → IfSome o (makes k)
  look by k None q n called number = tt
  look by k (Some y) None n called number = absurd called
  look by k (Some y) (Some x) n called number = let e : x ≡ k = omega (arith, number.0) in by k y (subst (λ i. Called g f (i, tt) y f) e called)

  pub counted : {S : Type 0} {mapped : S → Option B → S → Type 0} (s : S) (n : ℕ) → EachRunFrom mapped s (λ p. SomeRun nat_range_steps (record { start = 0; end = n }) (λ q. IsMapRun p q g f)) → CallKeepsClosure g f → ((k : ℕ) (y : B) → Called g f (k, tt) y f → makes k y) → (p : Run mapped) → p.from ≡ s → (p.whole ≡ true → p.len ≡ n) × ((k : ℕ) → IfSome (p.at k) (makes k))
  counted s n map_runs keeps by p from =
      let m = map_runs p p.seen from in
      let r : ItemsCountUp m.0 0 n = subst (λ (z : Range ℕ). ItemsCountUp m.0 z.start z.end) m.1 (range_runs m.0 m.0.seen) in (
        (λ w. omega (arith, m.2.1, r.1 (m.2.0 ∙ w))),
        (λ k. look by k (p.at k) (m.0.at k) n ((m.2.2 keeps).1 k) (r.2 k)),
      )
