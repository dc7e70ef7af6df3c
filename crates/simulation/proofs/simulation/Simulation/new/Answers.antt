-- At the beginning every network is silent, and no letter is under way.
use Rattle.std.proofs.Common.{◌≡◌, ℕ, ◌≤◌, map, get_or, vec_items, sym, ap, ◌∙◌, subst, arith, rules}
use Rattle.relations.specs.Sound.{networks}
use Rattle.blocks.specs.Ranges.{block_at}
use Rattle.blocks.specs.Shown.{count_of, firsts_of, lasts_of}
use Rattle.model.specs.Run.{Reach}
use Rattle.model.specs.Steps.{start}
use Rattle.simulation.specs.Posts.{inside, posts}
use Rattle.simulation.specs.Whole.{blocks_in, whole, world_with}
use Rattle.simulation.proofs.Fresh.{begins_silent}
use Rattle.simulation.proofs.simulation.Simulation.new.Goals as goal

pub invariant_of-result : goal.invariant_of-result
invariant_of-result c =
    let r = c.args.relations in
    let v = c.in_ok-networks.networks in
    let blocks = c.args.blocks in
    let fresh = c.in_ok-networks.ensures in
    let few : networks r ≤ 16 = omega (arith, c.if-networks-gt-MOST_NETWORKS.false, c.networks.ensures) in
    let small : count_of blocks ≤ 64 = search rules in
    let count = c.len-2.ensures in
    let all_blocks : (i : ℕ) → get_or (map blocks_in (vec_items v)) i (count_of blocks) ≡ count_of blocks = subst (λ n. (i : ℕ) → get_or (map blocks_in (vec_items v)) i n ≡ n) count fresh.2 in
    let none = c.new.ensures.items in
    let within = ap (λ ls. inside (networks r) (posts ls)) none in
    let reached = subst (Reach (world_with r blocks) (block_at (firsts_of blocks) (lasts_of blocks))) (sym (ap (whole (vec_items v)) none ∙ begins_silent (vec_items v) fresh.3)) (start (world_with r blocks)) in
    record { all = fresh.0 ∙ c.networks-2.ensures; few = few; small = small; numbers = fresh.1; same = all_blocks; within = within; reached = ∣ reached ∣₁ }
