-- Each turn appends the tie of one pair, if it is listed.
use Rattle.std.proofs.Common.{[], ◌∷◌, ◌++◌, vec_items, sym, ap, ◌∙◌, append-nil}
use Rattle.std.specs.List.{flat_map}
use Rattle.relations.specs.Sound.{relation}
use Rattle.model.proofs.Gathered.{gather_joined}
use Rattle.ties.specs.Encoding.{bytes_of, listed}
use Rattle.ties.proofs.encoder.push_row.Goals as goal
use Rattle.ties.proofs.encoder.push_row.Goals.{in-Some+in_ok-extend_from_slice, in_default}

pub loop-j-preserved : goal.loop-j-preserved
loop-j-preserved c =
    gather_joined bytes_of (λ j. listed (relation c.args.relations.now c.args.i j) c.args.i j) c.loop-j.j _ _ _ c.loop-j.invariant
    (elim c.match-listed_as.branch [
      | in-Some+in_ok-extend_from_slice w ↦
          ap vec_items w.out-is ∙ w.in_ok-extend_from_slice.ensures.items ∙ (λ k. vec_items c.loop-j.out ++ c.args.i ∷ c.loop-j.j ∷ w.from.ensures k ∷ []) ∙ ap (λ l. vec_items c.loop-j.out ++ flat_map bytes_of l) (sym w.in-Some.ensures)
      | in_default w ↦
          ap vec_items w.out-is ∙ sym (append-nil _) ∙ ap (λ l. vec_items c.loop-j.out ++ flat_map bytes_of l) (sym w.in_default.ensures)
    ])
