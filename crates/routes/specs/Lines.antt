-- The line of a network, which tells what it goes by, and the line of a block.
use Rattle.std.specs.Prelude.{ℕ, List, ◌++◌, codes, decimal}
use Rattle.text.specs.Dotted.{dotted}
use Rattle.text.specs.Row.{spelled}
use Rattle.blocks.specs.declared.block_list.Block.{Block}
use Rattle.model.specs.Selection.{Choice, nothing, local, via}
use Rattle.routes.specs.declared.lines.BlockLine.{BlockLine}

-- the line of a network: what it goes by
abbrev pub route_words : ℕ → Choice → List ℕ
route_words i nothing = decimal i ++ codes " nothing\n"
route_words i local = decimal i ++ codes " home\n"
route_words i (via j path) =
    (decimal i ++ (codes " by " ++ (decimal j ++ codes " over "))) ++ (spelled path.networks ++ codes "\n")

-- the line of a block that has a number
abbrev pub block_line : ℕ → Block → BlockLine
block_line number block = record { block = number; first = block.first; last = block.last; home = block.home }

-- the line before those of the networks: the block, its addresses and its home
abbrev pub block_words : BlockLine → List ℕ
block_words l =
    codes "block " ++ (decimal l.block ++ (codes ", " ++ (dotted l.first.0 ++ (codes " to " ++
    (dotted l.last.0 ++ (codes ", home " ++ (decimal l.home ++ codes "\n")))))))
