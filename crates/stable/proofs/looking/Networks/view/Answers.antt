-- The set of the tellers stands in for the links, and the first block of the world from this block on for this block.
use Rattle.std.proofs.Common.{◌∙◌, ap, false, slice_index_or}
use Rattle.model.specs.Selection.{by_keys, choose}
use Rattle.relations.specs.Sound.{networks, relation}
use Rattle.selection.specs.Worlds.{is_home_of}
use Rattle.stable.proofs.Looks.{viewed_by}
use Rattle.stable.specs.Networks.{links_in, showing, world_in}
use Rattle.stable.proofs.looking.Networks.view.Goals as goal

pub returns : goal.returns
returns c =
    let rows = showing c.args.shown.now in
    let me = c.args.me in
    let same = c.from_block.ensures.relations in
    c.select.ensures ∙
    (λ x. choose (by_keys (relation (same x).now me)) (relation (same x).now me) (λ j. slice_index_or c.as_slice.result.now j false) me (is_home_of c.from_block.result 0 me) rows (networks (same x).now)) ∙
    ap (λ own. choose (by_keys (relation c.args.self.world.relations.now me)) (relation c.args.self.world.relations.now me) (λ j. slice_index_or c.as_slice.result.now j false) me own rows (networks c.args.self.world.relations.now)) (c.from_block.ensures.homes me) ∙
    viewed_by (world_in c.args.self) (links_in c.args.self) c.args.self.block rows me _ (λ j. ap (λ m. slice_index_or m j false) c.as_slice.ensures ∙ c.tellers-tellers.ensures j)
