-- One more block is told, to those who stand among the audiences.
use Rattle.std.proofs.Common.{rules, ◌≡◌, ℕ, List, ◌++◌, length, vec_items, sym, ap, ◌∙◌, arith}
use Rattle.std.proofs.lemmas.List.{length_push}
use Rattle.selection.specs.Paths.{row}
use Rattle.model.specs.Lists.{gather}
use Rattle.links.specs.Held.{blocks_of}
use Rattle.advertisement.specs.Telling.{in_audience}
use Rattle.simulation.specs.Posts.{Post, mailing, posts}
use Rattle.simulation.proofs.Enumerated.{counted_end, counted_turn}
use Rattle.simulation.proofs.Posted.{by_audience, posted_more}
use Rattle.simulation.proofs.network.Network.post_all.Goals as goal

pub loop-block-preserved : goal.loop-block-preserved
loop-block-preserved c =
    let me = c.args.self.now in
    let t = me.tables in
    let told : ℕ → List Post = λ b. mailing me.router.number b (in_audience (vec_items t.audiences) b) (row t.advertised b) c.args.networks in
    let now = posts (vec_items c.loop-block.letters) in
    let turn = counted_turn (vec_items t.audiences) c.loop-block.yielded c.into_iter-block-iterator.result c.loop-block.block-iterator c.next.new.self c.next.result (search rules) (search rules) c.loop-block.yielded_by (c.in-Some.block, c.in-Some.audience) c.in-Some.is c.next.ensures.steps in
    let who = by_audience (vec_items t.audiences) (length c.loop-block.yielded) c.in-Some.audience.now turn.1 (sym (turn.2 c.in-Some.audience.now)) in
    let step : posts (vec_items c.post.new.letters) ≡ now ++ told (length c.loop-block.yielded) = c.in_ok-post.ensures ∙ (λ x. now ++ mailing me.router.number (turn.0 x) (sym who x) (row t.advertised (turn.0 x)) c.args.networks) in
    posted_more told (posts (vec_items c.args.letters.now)) (length c.loop-block.yielded) now _ c.loop-block.invariant step ∙ ap (λ n. posts (vec_items c.args.letters.now) ++ gather told n) (sym (length_push c.loop-block.yielded (c.in-Some.block, c.in-Some.audience)))

pub returns : goal.returns
returns c =
    let me = c.args.self.now in
    let t = me.tables in
    let told : ℕ → List Post = λ b. mailing me.router.number b (in_audience (vec_items t.audiences) b) (row t.advertised b) c.args.networks in
    let end = counted_end (vec_items t.audiences) c.loop-block.yielded c.into_iter-block-iterator.result c.loop-block.block-iterator c.next.new.self c.next.result (search rules) (search rules) c.loop-block.yielded_by (omega (arith, t.audiences.ok.0, t.whom, t.received.few)) c.in-None.is c.next.ensures.steps in
    let all : length c.loop-block.yielded ≡ blocks_of t = omega (arith, end, t.audiences.ok.0, t.whom) in
    c.loop-block.invariant ∙ ap (λ n. posts (vec_items c.args.letters.now) ++ gather told n) all
