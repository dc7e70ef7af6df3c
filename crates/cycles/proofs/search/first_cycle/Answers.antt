-- The walk up from each network tells whether a cycle has it for its lowest member.
use Rattle.std.proofs.Common.{sym, subst, arith}
use Rattle.model.specs.Cycles.{First}
use Rattle.relations.specs.Table.{count, rel}
use Rattle.relations.proofs.Tables.{within}
use Rattle.cycles.proofs.Rings.{no_cycle, is_first, none_more}
use Rattle.cycles.proofs.search.first_cycle.Goals as goal

pub ring-requires : goal.ring-requires
ring-requires c = c.steps_to_low.ensures.some _ c.in-Some.is

pub returns-in-Some : goal.returns-in-Some
returns-in-Some c =
    let short = c.steps_to_low.ensures.some _ c.in-Some.is in
    let traced = c.in_ok-ring.ensures in
    subst (λ l. First (rel c.args.matrix.now) l) (sym traced.added)
    (is_first _ _ _ traced.way c.loop-low.invariant short traced.least)

pub loop-low-preserved : goal.loop-low-preserved
loop-low-preserved c = none_more _ _ (c.steps_to_low.ensures.none c.in_default.is) c.loop-low.invariant

pub returns : goal.returns
returns c =
    no_cycle (rel c.args.matrix.now) (count c.args.matrix.now) (within c.args.matrix.now) (λ l k h. c.loop-low.invariant l k (omega arith))
