-- A taken update is written, and its block told anew: the local step.
use Rattle.std.proofs.Common.{◌∙◌}
use Rattle.advertisement.specs.Updates.{news}
use Rattle.model.specs.Hearing.{only}
use Rattle.model.specs.Local.{retold, sends}
use Rattle.links.specs.Held.{held, number_of, world_for}
use Rattle.links.proofs.Receiving.{fitting, heard_is, replaced_is, there}
use Rattle.links.proofs.router.Router.hear.Goals as goal

pub take-audience-requires : goal.take-audience-requires
take-audience-requires c =
    let w = world_for c.args.world c.args.tables.now in
    let taken = c.in_default.ensures in
    record {
      there = (there w (number_of c.args.self) (held c.args.self c.args.tables.now) c.args.from (news c.args.update) taken).0;
      fits = fitting c.args.world c.args.tables.now c.args.self c.args.from c.args.update taken;
    }

pub returns-clause-held : goal.returns-clause-held
returns-clause-held c =
    let w = world_for c.args.world c.args.tables.now in
    let me = number_of c.args.self in
    let s = held c.args.self c.args.tables.now in
    let u = news c.args.update in
    let taken = c.in_default.ensures in
    let after = replaced_is s c.args.from u _ c.take-audience.ensures.received in
    c.take-audience.ensures.held ∙ (λ x. retold w me (only u.block) (after x)) ∙ heard_is w me s c.args.from u taken

pub returns-clause-answer : goal.returns-clause-answer
returns-clause-answer c =
    let w = world_for c.args.world c.args.tables.now in
    let me = number_of c.args.self in
    let s = held c.args.self c.args.tables.now in
    let u = news c.args.update in
    let taken = c.in_default.ensures in
    let after = replaced_is s c.args.from u _ c.take-audience.ensures.received in
    (taken, λ k. c.take-audience.ensures.whom k ∙ (λ x. sends w me (only u.block) (after x) u.block k))
