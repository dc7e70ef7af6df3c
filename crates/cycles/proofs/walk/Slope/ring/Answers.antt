-- Each network is added before the rest of the way.
use Rattle.std.proofs.Common.{arith}
use Rattle.cycles.proofs.Rings.{traced_none, traced_more}
use Rattle.cycles.proofs.walk.Slope.ring.Goals as goal

pub loop-left-preserved : goal.loop-left-preserved
loop-left-preserved c =
    record {
      short = c.next_up-at.ensures.on;
      on = λ new t. c.loop-left.invariant.on new (traced_more _ _ _ _ _ _ _ _ _ (omega arith) c.next_up-at.ensures c.in_ok-push-2.ensures.items t);
    }

pub returns : goal.returns
returns c =
    c.loop-left.invariant.on _ (traced_none _ _ _ _ _ c.loop-left.invariant.short (omega arith))
