-- Those that nothing has changed for show what they would.
use Rattle.std.proofs.Common.{ap, sym, ◌∙◌}
use Rattle.selection.specs.Sets.{member}
use Rattle.stable.specs.Networks.{links_in, showing, world_in}
use Rattle.stable.proofs.Unaffected.{up_to_date_next}
use Rattle.stable.proofs.looking.Networks.look_again.Goals as goal

pub returns-clause-answer : goal.returns-clause-answer
returns-clause-answer c =
    up_to_date_next (world_in c.args.self) (links_in c.args.self) c.args.self.block (member c.in_ok-changed.changed) (showing c.args.shown.now) (showing c.swap.new.x)
    (λ j hj m. ap (λ t. showing t j) (sym c.swap.ensures.y_after) ∙ c.in_ok-changed.ensures j hj m)
    (member c.with_related.result) c.with_related.ensures
    (λ j hj. ap (λ t. showing t j) c.swap.ensures.x_after ∙ c.look_all.ensures.after j hj)
