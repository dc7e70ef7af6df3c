-- At each network: it shows something else, and is put in, or it shows the same.
use Rattle.std.proofs.Common.{◌<◌, ap, sym, ◌∙◌, arith}
use Rattle.std.proofs.lemmas.Bool.{false≢true}
use Rattle.model.specs.declared.limits.TheConstants.{MOST_NETWORKS}
use Rattle.selection.specs.Sets.{member}
use Rattle.stable.specs.Networks.{showing}
use Rattle.stable.proofs.Unaffected.{same_more, same_more_but, same_more_outside}
use Rattle.stable.proofs.looking.Networks.changed.Goals as goal
use Rattle.stable.proofs.looking.Networks.changed.Goals.{then-differs, else-differs}

pub loop-me-preserved : goal.loop-me-preserved
loop-me-preserved c =
    let few = c.args.self.world.relations.now.matrix.few in
    let under : c.loop-me.me < MOST_NETWORKS = omega (arith, few, c.loop-me-test.true, c.networks-me-end.ensures) in
    let rows = showing c.args.shown.now in
    let next = showing c.args.next.now in
    let before = c.loop-me.invariant in
    elim c.if-differs.branch [
      | then-differs w ↦ (
        same_more_but rows next c.loop-me.me (member c.loop-me.changed) (member c.if-differs.changed) before.0 under (λ j. ap (λ s. member s j) w.changed-is ∙ w.insert.ensures j),
        λ e. absurd (false≢true (sym w.same-is ∙ e)),
      )
      | else-differs w ↦ (
        same_more_outside rows next c.loop-me.me (member c.loop-me.changed) (member c.if-differs.changed) before.0 (λ j. ap (λ s. member s j) w.changed-is) w.if-differs.ensures,
        λ e. same_more rows next c.loop-me.me (before.1 (sym w.same-is ∙ e)) w.if-differs.ensures,
      )
    ]
