-- What is said of the links is the lowest fault of a line too.
use Rattle.std.proofs.Common.{Ok, rules}
use Rattle.lines.specs.After.{Said, links_said}
use Rattle.lines.proofs.Lowest.{lowest_told}
use Rattle.lines.proofs.reading.read_links.Goals as goal

pub returns-in_err-take_line-clause-lowest : goal.returns-in_err-take_line-clause-lowest
returns-in_err-take_line-clause-lowest c =
    let said : Said (links_said c.args.relations.now c.args.bytes.now) c.from_residual.result = search rules in
    lowest_told c.args.relations.now c.args.bytes.now c.from_residual.result said

pub returns-clause-lowest : goal.returns-clause-lowest
returns-clause-lowest c =
    let said : Said (links_said c.args.relations.now c.args.bytes.now) (Ok c.take_line.new.links) = search rules in
    lowest_told c.args.relations.now c.args.bytes.now (Ok c.take_line.new.links) said
