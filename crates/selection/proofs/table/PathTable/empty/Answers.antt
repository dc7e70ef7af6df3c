-- Each row says nothing.
use Rattle.std.proofs.Common.{◌≡◌, replicate, ap, ◌∙◌, rules}
use Rattle.std.proofs.lemmas.List.Elements.{same_from_all_zip}
use Rattle.selection.specs.Paths.{rows_of}
use Rattle.selection.proofs.Written.{blank}
use Rattle.selection.proofs.table.PathTable.empty.Goals as goal

pub returns : goal.returns
returns c =
    let made : c.in_ok-blocks.blocks.items ≡ replicate c.args.blocks (replicate 64 c.empty.result) = c.in_ok-blocks.ensures.items_if_clones_equal (λ y z. same_from_all_zip _ _ _ z.whole (λ a b h. h)) in
    (search rules, λ b j. ap (λ l. rows_of l b j) made ∙ blank c.args.blocks 64 c.empty.result c.empty.ensures b j)
