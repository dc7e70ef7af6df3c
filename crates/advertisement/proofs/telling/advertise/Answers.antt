-- One more neighbour is told, if its link is up.
use Rattle.std.proofs.Common.{◌≡◌, ℕ, ◌<◌, ◌&&◌, ◌||◌, eqb, refl, ap, ◌∙◌, subst, arith}
use Rattle.std.proofs.lemmas.Bool.Decides.{nat_tests as tests}
use Rattle.selection.specs.Meaning.{meaning}
use Rattle.selection.specs.Nodes.{link_up, networks_around, relation_to}
use Rattle.selection.specs.Paths.{count, row}
use Rattle.selection.specs.Sets.{member}
use Rattle.model.specs.Selection.{Said}
use Rattle.model.specs.Export.{tells, told}
use Rattle.advertisement.proofs.Turns.{Below, Heard, next}
use Rattle.advertisement.proofs.telling.advertise.Goals as goal
use Rattle.advertisement.proofs.telling.advertise.Goals.{then-tell_if_up, else-tell_if_up}

pub loop-k-preserved : goal.loop-k-preserved
loop-k-preserved c =
    let before = c.args.advertised.now in
    let k = c.loop-k.k in
    let rel = relation_to c.args.node in
    let up = link_up c.args.node in
    let says : ℕ → Said = λ j. tells rel up c.args.node.me j (meaning c.args.route) in
    let new = told rel c.args.node.me k (meaning c.args.route) in
    let few = c.args.node.world.relations.now.matrix.few in
    let below : k < 64 = omega (arith, c.networks-k-end.ensures) in
    let adds : (j : ℕ) → member c.if-tell_if_up.audience j ≡ (member c.loop-k.audience j || (c.tell_if_up.result && eqb j k)) =
    elim c.if-tell_if_up.branch [
      | then-tell_if_up w ↦ λ j. let e = ap (λ a. member a j) w.audience-is ∙ w.insert.ensures j in grind (arith, tests, e, below, w.if-tell_if_up.true)
      | else-tell_if_up w ↦ λ j. let e = ap (λ a. member a j) w.audience-is in grind (arith, tests, e, w.if-tell_if_up.false)
    ] in
    let turn =
    next (row before) (count before) c.args.block up says k (row c.loop-k.advertised) (member c.loop-k.audience) c.loop-k.invariant.0 c.loop-k.invariant.1 (count c.loop-k.advertised) c.loop-k.invariant.2 below new refl
    c.tell_if_up.result c.tell_if_up.ensures.test (row c.tell_if_up.new.advertised) c.tell_if_up.ensures.after (member c.if-tell_if_up.audience) adds in
    (turn.0, turn.1, c.tell_if_up.ensures.same ∙ c.loop-k.invariant.2)

pub returns : goal.returns
returns c =
    let before = c.args.advertised.now in
    let up = link_up c.args.node in
    let says : ℕ → Said = λ j. tells (relation_to c.args.node) up c.args.node.me j (meaning c.args.route) in
    let all : c.loop-k.k ≡ networks_around c.args.node = omega (arith, c.networks-k-end.ensures) in
    record {
      rows = subst (λ k. Below (row before) (count before) c.args.block up says k (row c.loop-k.advertised)) all c.loop-k.invariant.0;
      whom = subst (λ k. Heard (row before) (count before) c.args.block up says k (member c.loop-k.audience)) all c.loop-k.invariant.1;
      same = c.loop-k.invariant.2;
    }
