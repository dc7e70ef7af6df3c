use Rattle.std.proofs.Common.{ap, subst, rules}
use Rattle.script.specs.Faults.{line_checks}
use Rattle.script.specs.Meaning.{read_line}
use Rattle.script.specs.Next.{Bounded, left_of, line_of}
use Rattle.script.specs.Parts.{lines}
use Rattle.script.proofs.Bounds.{ahead_holds, line_bounded}
use Rattle.script.proofs.Entries.{entries_next}
use Rattle.script.proofs.Lowest.{lowest_next, line_lowest}
use Rattle.script.proofs.script.Script.next.Goals as goal

pub returns-clause-whole : goal.returns-clause-whole
returns-clause-whole c = entries_next (read_line c.args.limits) _ _ _ (c.next_by.ensures.ahead (read_line c.args.limits) (λ l r h. search rules))

pub returns-clause-within : goal.returns-clause-within
returns-clause-within c =
    let old = c.args.self.now in
    let all = c.next_by.ensures.ahead (read_line c.args.limits) (λ l r h. search rules) in
    subst (Bounded c.args.limits) (ap (λ a. a.answer) all) (ahead_holds (Bounded c.args.limits) (read_line c.args.limits) tt (line_bounded c.args.limits) (line_of old) (lines (left_of old)))

pub returns-clause-lowest : goal.returns-clause-lowest
returns-clause-lowest c = lowest_next (read_line c.args.limits) (line_checks c.args.limits) (line_lowest c.args.limits) _ _ _ (c.next_by.ensures.ahead (read_line c.args.limits) (λ l r h. search rules))
