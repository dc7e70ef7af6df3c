-- Each look leads on, and one that shows nothing new leads to the end.
use Rattle.std.proofs.Common.{◌≡◌, sym, ap, ◌∙◌, subst, add-one, arith}
use Rattle.std.proofs.lemmas.Bool.{false≢true}
use Rattle.model.specs.Stable.{looks}
use Rattle.stable.specs.Looking.{Shows, shown}
use Rattle.stable.specs.Networks.{links_in, looks_in, showing, world_in}
use Rattle.stable.proofs.Links.{same_ends}
use Rattle.stable.proofs.Looks.{stays, viewed}
use Rattle.stable.proofs.looking.Networks.look_until_same.Goals as goal

pub loop-look-init : goal.loop-look-init
loop-look-init c = (λ i hi. c.in_ok-shown.ensures.1 0 i, c.in_ok-shown.ensures.0, c.in_ok-next.ensures.0, λ i hi u. absurd (false≢true (sym u ∙ c.all-due.ensures i hi)))

pub look_again-requires : goal.look_again-requires
look_again-requires c = record { there = (c.loop-look.invariant.1, c.loop-look.invariant.2); up_to_date = c.loop-look.invariant.3 }

pub returns-in_default : goal.returns-in_default
returns-in_default c =
    let same = c.in_default.ensures.answer in
    let h = stays (world_in c.args.self) (links_in c.args.self) c.args.self.block c.loop-look._look (showing c.loop-look.shown) (same_ends c.args.self.links.now) c.loop-look.invariant.0
    (λ i hi. sym (c.look_again.ensures.after i hi) ∙ sym (same i hi)) (looks_in c.args.self)
    (omega (arith, c.loop-look-test.true, c.looks-look-end.ensures)) in
    λ i hi. sym (same i hi) ∙ h i hi

pub loop-look-preserved : goal.loop-look-preserved
loop-look-preserved c =
    let w = world_in c.args.self in
    let links = links_in c.args.self in
    let b = c.args.self.block in (
      λ i hi.
          c.look_again.ensures.after i hi ∙
          ap (shown i) (viewed w links b c.loop-look._look (showing c.loop-look.shown) (same_ends c.args.self.links.now) c.loop-look.invariant.0 i) ∙
          ap (λ k. shown i (looks k w links b i)) (sym (add-one c.loop-look._look)),
      c.look_again.ensures.same.0,
      c.look_again.ensures.same.1,
      c.in-Some.ensures.answer,
    )

pub returns : goal.returns
returns c =
    let last : c.loop-look._look ≡ looks_in c.args.self = omega (arith, c.loop-look-test.false, c.loop-look.auto, c.looks-look-end.ensures) in
    subst (λ k. Shows (world_in c.args.self) (links_in c.args.self) c.args.self.block k (showing c.loop-look.shown)) last c.loop-look.invariant.0
