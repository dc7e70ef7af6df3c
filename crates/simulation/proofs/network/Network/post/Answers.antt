-- One more is told, or not.
use Rattle.std.proofs.Common.{◌≡◌, ◌∷◌, [], ◌++◌, vec_items, ap, ◌∙◌}
use Rattle.selection.specs.Paths.{row}
use Rattle.selection.specs.Sets.{member}
use Rattle.simulation.specs.Posts.{addressed, posts}
use Rattle.simulation.specs.declared.letter.Item.TheVariants.{Update}
use Rattle.simulation.proofs.Posted.{none_sent, posted_more, sent_one}
use Rattle.simulation.proofs.network.Network.post.Goals as goal
use Rattle.simulation.proofs.network.Network.post.Goals.{then-contains+in_ok-push, else-contains}

pub loop-to-preserved : goal.loop-to-preserved
loop-to-preserved c =
    let me = c.args.self.now in
    let block = c.args.block in
    let to = c.loop-to.to in
    let who = member c.args.audience in
    let says = row me.tables.advertised block in
    let now = posts (vec_items c.loop-to.letters) in
    let step : posts (vec_items c.if-contains.letters) ≡ now ++ addressed me.router.number block who says to = elim c.if-contains.branch [
      | then-contains+in_ok-push w ↦ ap (λ v. posts (vec_items v)) w.letters-is ∙ sent_one me.router.number to block who says w.update.result _ _ (w.in_ok-push.ensures.items ∙ ap (λ n. vec_items c.loop-to.letters ++ record { from = n; to = to; item = Update w.update.result } ∷ []) c.number-from.ensures) w.update.ensures.block w.update.ensures.says w.if-contains.ensures
      | else-contains w ↦ ap (λ v. posts (vec_items v)) w.letters-is ∙ none_sent me.router.number to block who says now w.if-contains.ensures
    ] in
    posted_more (addressed me.router.number block who says) (posts (vec_items c.args.letters.now)) to now _ c.loop-to.invariant step
