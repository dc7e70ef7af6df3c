-- The fault that is told has the lowest number of all that the bytes and their message have.
use Rattle.forwarding.specs.Forwarding.{lookup}
use Rattle.links.specs.Held.{blocks_of, held, number_of, world_for}
use Rattle.messages.specs.Values.{message_of}
use Rattle.speaker.proofs.Lowest.{message_lowest, unread_lowest}
use Rattle.speaker.proofs.speaking.answer.Goals as goal

pub returns-in-Err-clause-lowest : goal.returns-in-Err-clause-lowest
returns-in-Err-clause-lowest c =
    let t = c.args.tables.now in
    unread_lowest (world_for c.args.world t) (lookup (blocks_of t) c.args.blocks.now) (number_of c.args.router) (held c.args.router t) c.args.bytes.now c.in-Err.cause c.in-Err.ensures

pub returns-clause-lowest : goal.returns-clause-lowest
returns-clause-lowest c =
    let t = c.args.tables.now in
    let read = c.in-Ok.ensures in
    message_lowest (world_for c.args.world t) (lookup (blocks_of t) c.args.blocks.now) (number_of c.args.router) (held c.args.router t) c.args.bytes.now (message_of c.in-Ok.read.0) read.0 _ _ _ _ _ _ read.1 c.take-done.ensures.answer c.measured.ensures
