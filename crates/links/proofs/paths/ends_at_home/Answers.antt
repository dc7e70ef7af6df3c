-- The last network is the one that the loan names.
use Rattle.std.proofs.Common.{sym, ◌∙◌}
use Rattle.selection.specs.Worlds.{is_home_of}
use Rattle.links.proofs.Scans.{ends_at}
use Rattle.links.proofs.paths.ends_at_home.Goals as goal

pub returns-in-Some : goal.returns-in-Some
returns-in-Some c =
    c.is_home.ensures ∙
    ends_at (is_home_of c.args.world c.args.block) c.args.path.now c.in-Some.last.now (sym c.in-Some.ensures.value)
