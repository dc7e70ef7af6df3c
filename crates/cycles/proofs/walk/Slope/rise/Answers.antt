-- At each network: it is one of the level, and its providers are met, or it is not.
use Rattle.std.proofs.Common.{true, cond, sym, ap, ◌∙◌}
use Rattle.cycles.proofs.Walks.{rise_yes, rise_no}
use Rattle.cycles.proofs.walk.Slope.rise.Goals as goal
use Rattle.cycles.proofs.walk.Slope.rise.Goals.{then-steps-v+then-meet, else-steps-v, else-steps-v-via-then-steps-v+else-meet, else-steps-v-via-else-steps-v}

pub loop-v-preserved : goal.loop-v-preserved
loop-v-preserved c =
    elim c.if-steps-v.branch [
      | then-steps-v+then-meet w ↦
          rw w.steps-is (rise_yes _ _ _ _ _ _ _ c.requires.0 c.loop-v.invariant _ _ _ w.if-steps-v.true w.meet.ensures (w.met-is ∙ ap (λ b. cond b true c.loop-v.met) (sym w.if-meet.true)))
      | else-steps-v w ↦
          elim w.else-steps-v.branch [
            | else-steps-v-via-then-steps-v+else-meet w' ↦
                rw (w.steps-is, w'.steps-is) (rise_yes _ _ _ _ _ _ _ c.requires.0 c.loop-v.invariant _ _ _ w'.if-steps-v.true w'.meet.ensures (w.met-is ∙ ap (λ b. cond b true c.loop-v.met) (sym w'.if-meet.false)))
            | else-steps-v-via-else-steps-v w' ↦
                rise_no _ _ _ _ _ _ _ c.requires.0 c.loop-v.invariant _ _ (w.steps-is ∙ w'.steps-is) w.met-is w'.if-steps-v.false
          ]
    ]
