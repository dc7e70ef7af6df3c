-- The lowest pair has something in flight, so there is an oldest, between networks that there are.
use Rattle.std.proofs.Common.{◌≡◌, [], vec_items, subst}
use Rattle.std.specs.Option.{MatchOption}
use Rattle.simulation.specs.Posting.{Oldest}
use Rattle.simulation.specs.Posts.{between, posts}
use Rattle.simulation.specs.Resting.{LowestEnds}
use Rattle.simulation.proofs.Lowest.{foremost, lowest_is}
use Rattle.simulation.proofs.simulation.Simulation.next.Goals as goal

pub returns : goal.returns
returns c =
    let x = c.args.self.now in
    let ls = vec_items x.letters in
    let i = c.in_ok-from.from in
    let j = c.in_ok-from.to in
    let low = lowest_is ls (i, j) (subst (λ l. LowestEnds l (i, j)) c.deref.ensures.value c.in_ok-from.ensures) in
    foremost x i j low c.oldest.result (subst (λ l. MatchOption c.oldest.result (between i j (posts l) ≡ []) (λ k. Oldest i j k l)) c.deref-2.ensures.value c.oldest.ensures)
