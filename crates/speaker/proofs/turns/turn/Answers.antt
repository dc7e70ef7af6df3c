-- A turn of a line of others is refused whatever is tied.
use Rattle.std.proofs.Common.{refl, vec_items}
use Rattle.relations.specs.Sound.{networks}
use Rattle.links.specs.Held.{held, number_of, world_for}
use Rattle.speaker.proofs.Told.{refused_turn_obeys}
use Rattle.speaker.proofs.turns.turn.Goals as goal

pub returns-in-Err-clause-answer : goal.returns-in-Err-clause-answer
returns-in-Err-clause-answer c =
    refused_turn_obeys (world_for c.args.world c.args.tables.now) (networks c.args.world.relations.now) (number_of c.args.router) c.args.from c.args.other c.args.up (held c.args.router c.args.tables.now) (vec_items c.args.out.now) c.in-Err.fault refl c.in-Err.ensures
