use Rattle.std.proofs.Common.{◌≡◌, ◌/◌, ◌%◌, ◌∷◌, vec_items, vec_len}
use Rattle.blocks.specs.declared.encoder.TheConstants.{BLOCKS}
use Rattle.blocks.specs.Encoding.{listing}
use Rattle.blocks.proofs.encoder.encode.Given as goal

-- the head and the blocks so far
abbrev pub invariant-loop-block : goal.invariant-loop-block
invariant-loop-block l = l.out.items ≡ BLOCKS ∷ vec_len l.blocks.firsts / 256 ∷ vec_len l.blocks.firsts % 256 ∷ listing (vec_items l.blocks.firsts) (vec_items l.blocks.lasts) (vec_items l.blocks.homes) l.block
