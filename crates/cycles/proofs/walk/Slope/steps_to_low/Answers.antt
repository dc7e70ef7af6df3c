-- What the walk has noted of `low`.
use Rattle.std.proofs.Common.{◌≡◌, ℕ, zero, suc, ◌<◌, Some, refl, subst, arith}
use Rattle.relations.specs.Table.{rel}
use Rattle.cycles.specs.Walk.{Fewest, noted}
use Rattle.cycles.proofs.walk.Slope.steps_to_low.Goals as goal

noted_some : (k : ℕ) → 0 < k → noted k ≡ Some k
noted_some zero h = absurd (omega arith)
noted_some (suc k) h = refl

pub returns-in-0 : goal.returns-in-0
returns-in-0 c =
    let s = c.args.self in
    subst (λ k. Fewest (rel s.matrix.now) s.low (noted k) c.args.start s.low) c.in-0.is (c.walk_up.ensures s.low)

pub returns-in_default : goal.returns-in_default
returns-in_default c =
    let s = c.args.self in
    subst (λ o. Fewest (rel s.matrix.now) s.low o c.args.start s.low) (noted_some _ (omega (arith, c.in_default))) (c.walk_up.ensures s.low)
