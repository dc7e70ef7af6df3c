-- At each network: it is marked, or it is seen already or no provider.
use Rattle.std.proofs.Common.{sym, inl, inr, arith}
use Rattle.model.proofs.Chains.{is_provider, not_provider}
use Rattle.cycles.proofs.Walks.{meet_yes, meet_no}
use Rattle.cycles.proofs.walk.Slope.meet.Goals as goal
use Rattle.cycles.proofs.walk.Slope.meet.Goals.{then-steps-w-eq0+then-provides, else-steps-w-eq0, else-steps-w-eq0-via-then-steps-w-eq0+else-provides, else-steps-w-eq0-via-else-steps-w-eq0}

pub loop-w-preserved : goal.loop-w-preserved
loop-w-preserved c =
    elim c.if-steps-w-eq0.branch [
      | then-steps-w-eq0+then-provides w ↦
          meet_yes _ _ _ _ _ _ _ _ c.loop-w.invariant _ _ w.steps-is w.met-is (omega arith) c.requires w.if-steps-w-eq0.true (omega arith) (is_provider _ (sym w.if-provides.ensures))
      | else-steps-w-eq0 w ↦
          meet_no _ _ _ _ _ _ _ _ c.loop-w.invariant _ _ w.steps-is w.met-is
          (elim w.else-steps-w-eq0.branch [
            | else-steps-w-eq0-via-then-steps-w-eq0+else-provides w' ↦ inr (not_provider _ (sym w'.if-provides.ensures))
            | else-steps-w-eq0-via-else-steps-w-eq0 w' ↦ inl (omega (arith, w'.if-steps-w-eq0.false))
          ])
    ]
