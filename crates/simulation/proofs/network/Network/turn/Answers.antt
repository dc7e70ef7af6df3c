-- The step on tables of its own; a refusal sends nothing.
use Rattle.std.proofs.Common.{◌≡◌, ℕ, List, ◌++◌, vec_items, sym, ap, ◌∙◌, append-nil}
use Rattle.relations.specs.Sound.{networks}
use Rattle.selection.specs.Paths.{row}
use Rattle.model.specs.Lists.{gather}
use Rattle.advertisement.specs.Telling.{in_audience}
use Rattle.simulation.specs.Posts.{Post, mailing, posts}
use Rattle.simulation.proofs.Posted.{all_told, none_told, told_all}
use Rattle.links.specs.Held.{audiences_of, blocks_of, number_of as router_number}
use Rattle.simulation.proofs.Stepping.{turned_step}
use Rattle.simulation.proofs.network.Network.turn.Goals as goal
use Rattle.simulation.proofs.network.Network.turn.Goals.{then-is_ok+in_ok-post_all, else-is_ok}

pub returns : goal.returns
returns c =
    let before = posts (vec_items c.args.letters.now) in
    let t = c.turn-turned.new.tables in
    let me = router_number c.turn-turned.result.0 in
    let told : ℕ → List Post = λ n. gather (λ b. mailing me b (in_audience (audiences_of t) b) (row t.advertised b) n) (blocks_of t) in
    let sent : posts (vec_items c.if-is_ok.letters) ≡ before ++ told_all c.turn-turned.result.1 (told (networks c.args.world.relations.now)) = elim c.if-is_ok.branch [
      | then-is_ok+in_ok-post_all w ↦ ap (λ v. posts (vec_items v)) w.letters-is ∙ w.in_ok-post_all.ensures ∙ ap (λ n. before ++ told n) w.networks.ensures ∙ ap (λ ps. before ++ ps) (sym (all_told c.turn-turned.result.1 _ (sym c.is_ok.ensures.value ∙ w.if-is_ok.true)))
      | else-is_ok w ↦ ap (λ v. posts (vec_items v)) w.letters-is ∙ sym (append-nil before) ∙ ap (λ ps. before ++ ps) (sym (none_told c.turn-turned.result.1 _ (sym c.is_ok.ensures.value ∙ w.if-is_ok.false)))
    ] in
    turned_step c.args.world c.args.self.now c.in_ok-tables.tables t c.in_ok-tables.ensures.cases c.turn-turned.ensures.blocks c.args.other c.args.up c.turn-turned.result.0 c.turn-turned.result.1 c.turn-turned.ensures.held c.turn-turned.ensures.answer (vec_items c.args.letters.now) _ c.turn-turned.ensures.number sent
