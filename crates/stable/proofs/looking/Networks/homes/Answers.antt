-- At each network: it is a home, and is added, or it is not.
use Rattle.std.proofs.Common.{◌<◌, ap, sym, ◌∙◌, arith}
use Rattle.model.specs.declared.limits.TheConstants.{MOST_NETWORKS}
use Rattle.selection.specs.Sets.{member}
use Rattle.stable.specs.Networks.{is_home_in}
use Rattle.stable.proofs.Looks.{joined, passed}
use Rattle.stable.proofs.looking.Networks.homes.Goals as goal
use Rattle.stable.proofs.looking.Networks.homes.Goals.{then-is_home, else-is_home}

pub loop-network-preserved : goal.loop-network-preserved
loop-network-preserved c =
    let few = c.args.self.world.relations.now.matrix.few in
    let under : c.loop-network.network < MOST_NETWORKS = omega (arith, few, c.loop-network-test.true, c.networks-network-end.ensures) in
    let own = is_home_in c.args.self in
    elim c.if-is_home.branch [
      | then-is_home w ↦ λ j. ap (λ s. member s j) w.homes-is ∙ joined own c.loop-network.network (member c.loop-network.homes) c.loop-network.invariant _ (sym c.is_home.ensures ∙ w.if-is_home.true) under w.insert.ensures j
      | else-is_home w ↦ λ j. ap (λ s. member s j) w.homes-is ∙ passed own c.loop-network.network (member c.loop-network.homes) c.loop-network.invariant (sym c.is_home.ensures ∙ w.if-is_home.false) j
    ]
