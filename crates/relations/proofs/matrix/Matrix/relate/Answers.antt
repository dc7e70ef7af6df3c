-- After the two writes the table is as `with_pair` says, and both ends still say the same.
use Rattle.std.proofs.Common.{set, rules}
use Rattle.relations.proofs.Tables.{Paired, pair_hold}
use Rattle.relations.proofs.matrix.Matrix.relate.Goals as goal
use Rattle.relations.proofs.matrix.Matrix.relate.Goals.{After-index_mut-2}

held : (c : After-index_mut-2) → Paired c.args.self.now c.args.i c.args.j c.args.relation (set (set c.args.self.now.rows.items c.args.i (set c.index_mut.result.now c.args.j c.args.relation)) c.args.j (set c.index_mut-2.result.now c.args.i c.opposite.result))
held c =
    pair_hold c.args.self.now _ _ c.args.relation _ _ _ (search rules) (search rules) c.if-i-j.false c.opposite.ensures c.index_mut.ensures.value c.index_mut-2.ensures.value

pub invariant_of-self : goal.invariant_of-self
invariant_of-self c =
    let m = c.args.self.now in
    let hold = held (goal.at.invariant_of-self c).After-index_mut-2 in
    record { few = m.few; wide = hold.wide; «mutual» = hold.«mutual»; apart = hold.apart }

pub returns-clause-after : goal.returns-clause-after
returns-clause-after c = (held (goal.at.returns-clause-after c).After-index_mut-2).says
