-- What is accepted is what the bytes say; a cycle is theirs too.
use Rattle.std.proofs.Common.{rules}
use Rattle.ties.specs.Outcome.{Read}
use Rattle.ties.proofs.Answered.{accepted, refused}
use Rattle.ties.proofs.Lowest.{clear, lowest_told}
use Rattle.ties.proofs.decoder.read.Goals as goal

pub returns-clause-answer : goal.returns-clause-answer
returns-clause-answer c =
    let table = c.in_ok-matrix.ensures in
    accepted c.args.most c.args.bytes.now c.in_ok-matrix.matrix c.in_ok-sound.field-0 (c.type_inv.bytes 3).fits table.0 table.1 table.2 c.in_ok-sound.ensures

pub returns-clause-lowest : goal.returns-clause-lowest
returns-clause-lowest c = clear _ _ c.in_ok-matrix.ensures.0

pub returns-in_err-sound-clause-answer : goal.returns-in_err-sound-clause-answer
returns-in_err-sound-clause-answer c =
    let table = c.in_ok-matrix.ensures in
    refused _ _ c.in_ok-matrix.matrix c.in_err-sound.field-0.0 _ c.from_residual-in_err-sound.ensures.1 table.0 table.2 c.in_err-sound.ensures

pub returns-in_err-sound-clause-lowest : goal.returns-in_err-sound-clause-lowest
returns-in_err-sound-clause-lowest c =
    let table = c.in_ok-matrix.ensures in
    lowest_told _ _ _ (refused _ _ c.in_ok-matrix.matrix c.in_err-sound.field-0.0 _ c.from_residual-in_err-sound.ensures.1 table.0 table.2 c.in_err-sound.ensures)

pub returns-in_err-matrix-clause-lowest : goal.returns-in_err-matrix-clause-lowest
returns-in_err-matrix-clause-lowest c =
    let read : Read c.args.most c.args.bytes.now c.from_residual.result = search rules in
    lowest_told _ _ _ read
