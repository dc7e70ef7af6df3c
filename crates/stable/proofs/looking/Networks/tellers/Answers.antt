-- At each network: it tells, and is added, or it does not.
use Rattle.std.proofs.Common.{◌<◌, ap, sym, ◌∙◌, arith}
use Rattle.model.specs.declared.limits.TheConstants.{MOST_NETWORKS}
use Rattle.selection.specs.Sets.{member}
use Rattle.stable.specs.Networks.{tells_in}
use Rattle.stable.proofs.Looks.{joined, passed}
use Rattle.stable.proofs.looking.Networks.tellers.Goals as goal
use Rattle.stable.proofs.looking.Networks.tellers.Goals.{then-tells, else-tells}

pub loop-from-preserved : goal.loop-from-preserved
loop-from-preserved c =
    let few = c.args.self.world.relations.now.matrix.few in
    let under : c.loop-from.from < MOST_NETWORKS = omega (arith, few, c.loop-from-test.true, c.networks-from-end.ensures) in
    let tells = tells_in c.args.self c.args.shown.now c.args.me in
    elim c.if-tells.branch [
      | then-tells w ↦ λ j. ap (λ s. member s j) w.tellers-is ∙ joined tells c.loop-from.from (member c.loop-from.tellers) c.loop-from.invariant _ (sym c.tells.ensures ∙ w.if-tells.true) under w.insert.ensures j
      | else-tells w ↦ λ j. ap (λ s. member s j) w.tellers-is ∙ passed tells c.loop-from.from (member c.loop-from.tellers) c.loop-from.invariant (sym c.tells.ensures ∙ w.if-tells.false) j
    ]
