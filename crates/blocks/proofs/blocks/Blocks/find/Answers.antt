-- Where no block begins at the address or below it, none holds it.
use Rattle.blocks.proofs.Found.{none_begins}
use Rattle.blocks.proofs.blocks.Blocks.find.Goals as goal

pub returns-in_err-block-clause-block : goal.returns-in_err-block-clause-block
returns-in_err-block-clause-block c =
    none_begins _ _ _ _ _ c.from_residual.ensures c.args.self.now.orderly c.begun.ensures c.in_err-block.ensures
