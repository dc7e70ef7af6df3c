-- Each turn hears the next; when nothing is in flight the stable routing stands, and packets have ended by their fates.
use Rattle.std.proofs.Common.{◌≡◌, ◌<◌, ◌++◌, [], List, map, vec_items, sym, refl, ap, ◌∙◌, append-nil, append_assoc, subst}
use Rattle.std.proofs.lemmas.Bool.Decides.{when_false, when_true}
use Rattle.blocks.specs.Ranges.{block_at}
use Rattle.blocks.specs.Shown.{firsts_of, lasts_of}
use Rattle.model.specs.Packets.{Lookup}
use Rattle.model.specs.Promise.{Settled}
use Rattle.model.specs.World.{World}
use Rattle.model.specs.Run.{State, links}
use Rattle.model.specs.Levels.{Heights}
use Rattle.model.specs.Measure.{left}
use Rattle.model.specs.Ends.{ends}
use Rattle.forwarding.specs.Forwarding.{ended_of}
use Rattle.forwarding.specs.declared.packet.Ending.{Ending}
use Rattle.model.specs.Flight.{Still}
use Rattle.simulation.specs.Resting.{HeardAll, NextTold, more, none}
use Rattle.simulation.specs.Simulated.{lookup_of, state_of, world_of}
use Rattle.simulation.specs.declared.simulation.Simulation.{Simulation}
use Rattle.simulation.proofs.Delivered.{fates_told}
use Rattle.simulation.proofs.Lessening.{heights}
use Rattle.simulation.proofs.Rested.{links_heard, next_lessens, settled}
use Rattle.simulation.proofs.simulation.Simulation.rest.Goals as goal

same_lookup : (x y : Simulation) → x.blocks ≡ y.blocks → lookup_of x ≡ lookup_of y
same_lookup x y e = ap (λ b. block_at (firsts_of b) (lasts_of b)) e

-- one hearing more
one_more : (w : World) (at : Lookup) (s t u : State) (before now after : List Ending) → HeardAll w at s t before now → NextTold w at t u now after → HeardAll w at s u before after
one_more w at s t u before now after h n = record {
  came = h.came ++ ends n.end;
  hearings = more h.hearings n.heard;
  told = n.told ∙ ap (λ l. l ++ ends n.end) h.told ∙ append_assoc (map ended_of before) h.came (ends n.end);
}

pub loop-init : goal.loop-init
loop-init c = (refl, refl, λ i k. refl, record { came = []; hearings = none; told = sym (append-nil _) })

pub loop-smaller : goal.loop-smaller
loop-smaller c =
    let x = c.loop.self in
    let w = c.loop.invariant.0 in
    let heard = when_true _ _ c.if-branch.true c.in_ok-hear_next.ensures.heard in
    let h = heights c.args.self.now in
    subst (λ v. left v h.0 (state_of c.hear_next.new.self) < left v h.0 (state_of x)) w (next_lessens x (state_of c.hear_next.new.self) h.0 (subst (λ v. Heights v h.0) (sym w) h.1) heard.end heard.heard)

pub loop-preserved : goal.loop-preserved
loop-preserved c =
    let x = c.loop.self in
    let inv = c.loop.invariant in
    let heard = when_true _ _ c.if-branch.true c.in_ok-hear_next.ensures.heard in
    let here = subst {A = World × Lookup} (λ v. NextTold v.0 v.1 (state_of x) (state_of c.hear_next.new.self) (vec_items c.loop.endings) (vec_items c.hear_next.new.endings)) (λ y. (inv.0 y, same_lookup x c.args.self.now inv.1 y)) heard in (
      c.hear_next.ensures.world ∙ inv.0,
      c.hear_next.ensures.blocks ∙ inv.1,
      λ i k. links_heard (world_of x) (lookup_of x) (state_of x) (state_of c.hear_next.new.self) heard.end heard.heard i k ∙ inv.2 i k,
      one_more _ _ _ _ _ _ _ _ inv.3 here,
    )

pub returns : goal.returns
returns c =
    let x = c.loop.self in
    let inv = c.loop.invariant in
    let done = when_false _ _ c.if-branch.false c.in_ok-hear_next.ensures.heard in
    let same : state_of c.hear_next.new.self ≡ state_of x = ap state_of done.1 in
    let all = subst {A = State × List Ending} (λ z. HeardAll (world_of c.args.self.now) (lookup_of c.args.self.now) (state_of c.args.self.now) z.0 (vec_items c.args.endings.now) z.1) (λ y. (sym same y, sym done.2 y)) inv.3 in
    let still = subst Still (sym same) done.0 in
    record {
      world = c.hear_next.ensures.world ∙ inv.0;
      blocks = c.hear_next.ensures.blocks ∙ inv.1;
      links = λ i k. ap (λ s. links s i k) same ∙ inv.2 i k;
      heard = all;
      still = still;
      settled = subst {A = World × State} (λ z. Settled z.0 z.1) (λ y. (inv.0 y, sym same y)) (settled x done.0);
      fates = fates_told c.args.self.now (state_of c.hear_next.new.self) (vec_items c.args.endings.now) (vec_items c.hear_next.new.endings) all still;
    }
