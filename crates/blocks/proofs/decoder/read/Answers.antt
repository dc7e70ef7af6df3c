-- What is accepted is what the bytes say.
use Rattle.std.proofs.Common.{◌≡◌, Ok, rules}
use Rattle.std.proofs.lemmas.Result.{MatchResult-at_ok}
use Rattle.blocks.specs.Outcome.{Accepted, Read}
use Rattle.blocks.proofs.Answered.{accepted_read}
use Rattle.blocks.proofs.Lowest.{clear, lowest_told}
use Rattle.blocks.proofs.decoder.read.Goals as goal
use Rattle.blocks.proofs.decoder.read.Goals.{In_ok-map_err}

accepted : (c : In_ok-map_err) → Accepted c.args.networks c.args.most c.args.bytes.now c.in_ok-blocks.blocks
accepted c =
    let is : c.read_head.result ≡ Ok c.in_ok-count.count = search rules in
    let head = MatchResult-at_ok _ _ _ is c.read_head.ensures.cases in
    let blocks = c.in_ok-blocks.ensures in
    let ends : c.read_end.result ≡ Ok tt = search rules in
    let end = MatchResult-at_ok _ _ _ ends c.read_end.ensures in
    accepted_read _ _ _ _ _ _ _ (λ i. (c.type_inv.bytes i).fits) c.new-reader.ensures.source c.read_head.ensures.source blocks.source head.0 blocks.answer end

pub returns-clause-answer : goal.returns-clause-answer
returns-clause-answer c = accepted c

pub returns-clause-lowest : goal.returns-clause-lowest
returns-clause-lowest c = clear _ _ _ (accepted c).faultless

pub returns-in_err-count-clause-lowest : goal.returns-in_err-count-clause-lowest
returns-in_err-count-clause-lowest c =
    let read : Read c.args.networks c.args.most c.args.bytes.now c.from_residual.result = search rules in
    lowest_told _ _ _ _ read

pub returns-in_err-blocks-clause-lowest : goal.returns-in_err-blocks-clause-lowest
returns-in_err-blocks-clause-lowest c =
    let read : Read c.args.networks c.args.most c.args.bytes.now c.from_residual-in_err-blocks.result = search rules in
    lowest_told _ _ _ _ read

pub returns-in_err-map_err-clause-lowest : goal.returns-in_err-map_err-clause-lowest
returns-in_err-map_err-clause-lowest c =
    let read : Read c.args.networks c.args.most c.args.bytes.now c.from_residual-in_err-map_err.result = search rules in
    lowest_told _ _ _ _ read
