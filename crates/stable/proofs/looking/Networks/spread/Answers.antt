-- At each network: it joins, or it does not.
use Rattle.std.proofs.Common.{◌<◌, arith}
use Rattle.selection.specs.Sets.{member}
use Rattle.stable.specs.Networks.{count_in, is_home_in, links_in}
use Rattle.stable.proofs.Growth.{grows, grows_not}
use Rattle.stable.proofs.looking.Networks.spread.Goals as goal
use Rattle.stable.proofs.looking.Networks.spread.Goals.{then-joins, else-joins}

pub loop-from-preserved : goal.loop-from-preserved
loop-from-preserved c =
    let n = count_in c.args.self in
    let links = links_in c.args.self in
    let own = is_home_in c.args.self in
    let few = c.args.self.world.relations.now.matrix.few in
    let here : c.loop-from.from < n = omega (arith, c.loop-from-test.true, c.networks-from-end.ensures) in
    elim c.if-joins.branch [
      | then-joins w ↦ rw (w.reached-is, w.grown-is) (grows n links own c.loop-from.from _ (member c.loop-from.reached) _ c.loop-from.grown here (omega (arith, few, here)) c.loop-from.invariant w.if-joins.ensures.0 w.if-joins.ensures.1 w.insert.ensures)
      | else-joins w ↦ rw (w.reached-is, w.grown-is) (grows_not n links own c.loop-from.from _ (member c.loop-from.reached) c.loop-from.grown c.loop-from.invariant w.if-joins.ensures)
    ]
