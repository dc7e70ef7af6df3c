-- The audience of the block is the one that stands there.
use Rattle.std.proofs.Common.{ap, sym, ◌∙◌, ◌++◌, vec_items, arith}
use Rattle.selection.specs.Paths.{row}
use Rattle.links.specs.Held.{audiences_of}
use Rattle.speaker.specs.Telling.{telling}
use Rattle.speaker.proofs.Told.{by_audience}
use Rattle.speaker.proofs.telling.tell_block.Goals as goal

pub returns-in-Some-clause-items : goal.returns-in-Some-clause-items
returns-in-Some-clause-items c =
    let t = c.args.tables.now in
    let b = c.args.block in
    c.tell.ensures.items ∙ ap (λ who. vec_items c.args.out.now ++ telling b who (row t.advertised b) c.args.networks) (sym (by_audience (audiences_of t) b c.in-Some.audience (omega (arith, c.requires.there, t.audiences.ok.0, t.whom)) c.in-Some.ensures.some))
