-- A refusal sends nothing.
use Rattle.std.proofs.Common.{◌++◌, vec_items, sym, ap, ◌∙◌}
use Rattle.selection.specs.Paths.{row}
use Rattle.simulation.specs.Posting.{told_by}
use Rattle.simulation.specs.Posts.{mailing, posts}
use Rattle.simulation.specs.Whole.{number_of}
use Rattle.simulation.proofs.Posted.{nobody_told}
use Rattle.simulation.proofs.network.Network.post_heard.Goals as goal

pub returns-in-Err : goal.returns-in-Err
returns-in-Err c =
    let me = c.args.self.now in
    let before = posts (vec_items c.args.letters.now) in
    let says = row me.tables.advertised c.args.block in
    nobody_told (number_of me) c.args.block c.args.networks c.in-Err.field-0 says before ∙ ap (λ h. before ++ mailing (number_of me) c.args.block (told_by h) says c.args.networks) (sym c.in-Err.is)
