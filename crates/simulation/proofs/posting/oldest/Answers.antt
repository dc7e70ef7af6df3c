-- The letter at the first place is the oldest.
use Rattle.std.proofs.Common.{rules}
use Rattle.std.proofs.iter.runs.Made.{chains}
use Rattle.simulation.proofs.Posted.{oldest_is}
use Rattle.simulation.proofs.posting.oldest.Goals as goal

pub returns : goal.returns
returns c = oldest_is c.args.from c.args.to c.args.letters.now c.position.result (search (rules, chains))
