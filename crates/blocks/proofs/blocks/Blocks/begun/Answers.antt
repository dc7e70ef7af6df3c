-- The first addresses rise, so those that are at an address or below it come first.
use Rattle.std.proofs.Common.{leb, arith, rules}
use Rattle.std.proofs.lemmas.Bool.{leb-true, leb-false}
use Rattle.std.proofs.lemmas.List.Sorted.{IsPartitionPoint-from_clause, IsPartitionedBy-leb}
use Rattle.blocks.proofs.Found.{rising}
use Rattle.blocks.proofs.blocks.Blocks.begun.Goals as goal

pub returns : goal.returns
returns c =
    let parted = IsPartitionedBy-leb (λ x. x) _ c.args.address (rising _ _ c.args.self.now.orderly) in
    let point = IsPartitionPoint-from_clause (λ x. leb x c.args.address) _ _ c.partition_point.ensures.partitioned parted (λ a r q k. search rules) in
    record {
      bound = c.partition_point.ensures.bound;
      below = λ b h. leb-true _ _ (point.0 b 0 (omega arith) h);
      above = λ b l h. leb-false _ _ (point.1 b 0 l h);
    }
