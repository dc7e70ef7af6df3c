-- The entry that comes next is taken, or it is the fault.
use Rattle.std.proofs.Common.{◌≡◌, Ok, Err, Option, Result, ap, ◌∙◌}
use Rattle.std.proofs.lemmas.Result.{err_from_is_err_and}
use Rattle.relations.specs.Sound.{networks}
use Rattle.script.specs.declared.cause.Cause as script
use Rattle.script.specs.declared.command.Turn.{Turn}
use Rattle.script.specs.Next.{left_of, line_of}
use Rattle.script.specs.Turns.{turn_entries}
use Rattle.script.specs.Whole.{headed}
use Rattle.stable.specs.Linked.{up}
use Rattle.lines.specs.After.{links_after}
use Rattle.lines.proofs.Heads.{next_is, as_fault, at_end, at_fault, at_no_link, at_turn}
use Rattle.lines.proofs.reading.take_turn.Goals as goal
use Rattle.lines.proofs.reading.take_turn.Goals.{After-next_turn}

-- what comes next, by what was read
next : (c : After-next_turn) (b : Result (Option Turn) script.Cause) → c.next_turn.result ≡ b → links_after c.args.relations.now (up c.args.links.now) (turn_entries (networks c.args.relations.now) (line_of c.args.script.now) (left_of c.args.script.now)) ≡ links_after c.args.relations.now (up c.args.links.now) (headed b (line_of c.next_turn.new.self) (turn_entries (networks c.args.relations.now) (line_of c.next_turn.new.self) (left_of c.next_turn.new.self)))
next c b is = next_is c.args.relations.now (up c.args.links.now) c.networks.result _ _ _ _ _ b c.networks.ensures c.next_turn.ensures.whole is

pub returns-in_err-turn-clause-after : goal.returns-in_err-turn-clause-after
returns-in_err-turn-clause-after c =
    let a = (goal.at.returns-in_err-turn-clause-after c).After-next_turn in
    let p = err_from_is_err_and c.from_residual.result c.from_residual.ensures.1 in
    as_fault c.args.relations.now (up c.args.links.now) c.next_turn.new.self c.from_residual.result _ _ _
    (next a _ c.in_err-turn.was ∙ at_fault c.args.relations.now (up c.args.links.now) _ _ _)
    (p.1 ∙ ap (λ e. Err e) p.2)

pub returns-in_default-clause-after : goal.returns-in_default-clause-after
returns-in_default-clause-after c =
    let a = (goal.at.returns-in_default-clause-after c).After-next_turn in
    next a _ (c.in_ok-turn.was ∙ ap (λ o. Ok o) c.in_default.is) ∙ at_end c.args.relations.now (up c.args.links.now) (line_of c.next_turn.new.self) (turn_entries (networks c.args.relations.now) (line_of c.next_turn.new.self) (left_of c.next_turn.new.self))

pub returns-in_err-turn_link-clause-after : goal.returns-in_err-turn_link-clause-after
returns-in_err-turn_link-clause-after c =
    let a = (goal.at.returns-in_err-turn_link-clause-after c).After-next_turn in
    let p = err_from_is_err_and c.from_residual-in_err-turn_link.result c.from_residual-in_err-turn_link.ensures.1 in
    as_fault c.args.relations.now (up c.turn_link.new.links) c.next_turn.new.self c.from_residual-in_err-turn_link.result _ _ _
    (next a _ (c.in_ok-turn.was ∙ ap (λ o. Ok o) c.in-Some.is) ∙
    at_no_link c.args.relations.now (up c.args.links.now) _ c.in-Some.turn _ c.in_err-turn_link.ensures.1)
    (p.1 ∙ ap (λ e. Err e) (p.2 ∙ c.in_err-turn_link.ensures.0))

pub returns-clause-after : goal.returns-clause-after
returns-clause-after c =
    let a = (goal.at.returns-clause-after c).After-next_turn in
    next a _ (c.in_ok-turn.was ∙ ap (λ o. Ok o) c.in-Some.is) ∙
    at_turn c.args.relations.now (up c.args.links.now) _ c.in-Some.turn _ (up c.turn_link.new.links) c.in_ok-turn_link.ensures
