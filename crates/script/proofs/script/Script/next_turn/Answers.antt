use Rattle.std.proofs.Common.{ap, subst, rules}
use Rattle.script.specs.Next.{left_of, line_of}
use Rattle.script.specs.Parts.{lines}
use Rattle.script.specs.Turns.{TurnBounded, read_turn_line, turn_line_checks}
use Rattle.script.proofs.Bounds.{ahead_holds, turn_line_within}
use Rattle.script.proofs.Entries.{entries_next}
use Rattle.script.proofs.Lowest.{lowest_next, turn_line_lowest}
use Rattle.script.proofs.script.Script.next_turn.Goals as goal

pub returns-clause-whole : goal.returns-clause-whole
returns-clause-whole c = entries_next (read_turn_line c.args.networks) _ _ _ (c.next_by.ensures.ahead (read_turn_line c.args.networks) (λ l r h. search rules))

pub returns-clause-within : goal.returns-clause-within
returns-clause-within c =
    let old = c.args.self.now in
    let all = c.next_by.ensures.ahead (read_turn_line c.args.networks) (λ l r h. search rules) in
    subst (TurnBounded c.args.networks) (ap (λ a. a.answer) all) (ahead_holds (TurnBounded c.args.networks) (read_turn_line c.args.networks) tt (turn_line_within c.args.networks) (line_of old) (lines (left_of old)))

pub returns-clause-lowest : goal.returns-clause-lowest
returns-clause-lowest c = lowest_next (read_turn_line c.args.networks) (turn_line_checks c.args.networks) (turn_line_lowest c.args.networks) _ _ _ (c.next_by.ensures.ahead (read_turn_line c.args.networks) (λ l r h. search rules))
