-- One more network: it has no candidate, or its candidate is worse or better than the best so far.
use Rattle.std.proofs.Common.{arith, refl, rules, sym}
use Rattle.model.specs.Paths.{path_over}
use Rattle.selection.proofs.Best.{better_one, first_one, other, worse_one}
use Rattle.selection.proofs.Compared.{all_equal, better, still_equal, worse}
use Rattle.selection.proofs.selecting.select.Goals as goal
use Rattle.selection.proofs.selecting.select.Goals.{in-Via+in-None, in-Via+in-Some-2+else-new-old+then-new-old-2, in_default-best}

pub loop-new-preserved : goal.loop-new-preserved
loop-new-preserved c =
    still_equal c.keys-new.ensures c.keys-old.ensures refl c.into_iter-new-iterator.result c.loop-new.new-iterator c.next.new.self (search rules) (search rules) _ c.loop-new.yielded_by c.loop-new.invariant _ c.next.ensures.steps c.in-Some-2.is c.if-new-old.false c.if-new-old-2.false

pub candidates-preserved-then-new-old : goal.candidates-preserved-then-new-old
candidates-preserved-then-new-old c =
    worse_one _ _ c.candidates.best c.candidates.j c.candidates.invariant (path_over c.in-Some.path.now) c.in-Some.ensures c.in-Via.neighbour c.in-Via.path c.in-Via.is
    (worse c.keys-new.ensures c.keys-old.ensures refl c.into_iter-new-iterator.result c.loop-new.new-iterator c.next.new.self (search rules) (search rules) _ c.loop-new.yielded_by c.loop-new.invariant _ c.next.ensures.steps c.in-Some-2.is c.if-new-old.true)

pub candidates-preserved : goal.candidates-preserved
candidates-preserved c =
    elim c.match-best.branch [
      | in-Via+in-None w ↦
          absurd (other _ _ c.candidates.best c.candidates.j c.candidates.invariant (path_over c.in-Some.path.now) c.in-Some.ensures w.in-Via.neighbour w.in-Via.path w.in-Via.is
          (sym (all_equal c.keys-new.ensures w.keys-old.ensures refl w.into_iter-new-iterator.result w.loop-new.new-iterator w.next.new.self (search rules) (search rules) _ w.loop-new.yielded_by w.loop-new.invariant _ w.next.ensures.steps w.in-None.is 2 (omega arith))))
      | in-Via+in-Some-2+else-new-old+then-new-old-2 w ↦
          better_one _ _ c.candidates.best c.candidates.j c.candidates.invariant (path_over c.in-Some.path.now) c.in-Some.ensures w.in-Via.neighbour w.in-Via.path w.in-Via.is
          (better c.keys-new.ensures w.keys-old.ensures refl w.into_iter-new-iterator.result w.loop-new.new-iterator w.next.new.self (search rules) (search rules) _ w.loop-new.yielded_by w.loop-new.invariant _ w.next.ensures.steps w.in-Some-2.is w.if-new-old-2.true)
      | in_default-best w ↦ first_one _ _ c.candidates.best c.candidates.j c.candidates.invariant (path_over c.in-Some.path.now) c.in-Some.ensures w.in_default-best.not-Via
    ]
