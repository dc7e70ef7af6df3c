-- A path in a table has no more than 64 networks.
use Rattle.model.specs.Paths.{path_over}
use Rattle.selection.proofs.Lengths.{row_length}
use Rattle.advertisement.proofs.update.update_of.Goals as goal

pub announced-requires : goal.announced-requires
announced-requires c = (row_length c.args.table.now c.args.block c.args.neighbour (path_over c.in-Some.path.now) c.in-Some.ensures).1
