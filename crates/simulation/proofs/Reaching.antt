-- Each step leads to a state of a run. Assumes nothing.
use Rattle.std.proofs.Common.{◌≡◌, ℕ, ◌<◌, Bool, true, ltb, List, [], ◌∷◌, length, Option, sym, refl, ap, ◌∙◌, subst, true≢false, arith}
use mathlib.Core.Logic.{∥∥₁_map}
use Rattle.std.proofs.lemmas.Bool.{and_parts, ltb-true}
use Rattle.model.specs.declared.relation.Relation.TheVariants.{Unrelated}
use Rattle.model.specs.Relations.{related}
use Rattle.model.specs.Run.{Item, Move, Reach, State, posted, turned}
use Rattle.model.specs.Steps.{change, hears, move, send, sends, turns}
use Rattle.model.specs.Packets.{Lookup}
use Rattle.model.specs.World.{World}
use Rattle.simulation.specs.Simulated.{Makes, MakesHeard, MakesSent, Ready, lookup_of, state_of, world_of}
use Rattle.model.specs.Ends.{Ended}
use Rattle.simulation.specs.declared.prepared.Prepared.{Prepared}
use Rattle.simulation.specs.declared.simulation.Simulation.{Simulation}
use Rattle.simulation.specs.Steps.{both, first_heard, hearing}

-- hearing where something is in flight is a move
pub heard_move : (w : World) (at : Lookup) (i j : ℕ) (s : State) → both w i j ≡ true → 0 < length (s.flight i j) → Move w at s (hearing w at i j s)
heard_move w at i j s h some = by_first (s.flight i j) refl some
  where
    below : (i < w.n) × (j < w.n)
    below = let p = and_parts (ltb i w.n) (ltb j w.n) h in (ltb-true i w.n p.0, ltb-true j w.n p.1)

    by_first : (q : List Item) → s.flight i j ≡ q → 0 < length q → Move w at s (first_heard w at i j q s)
    by_first [] e l = absurd (omega arith)
    by_first (x ∷ rest) e l = hears s i j x rest below.0 below.1 e

pub heard_reach : (w : World) (at : Lookup) (i j : ℕ) (s : State) → both w i j ≡ true → 0 < length (s.flight i j) → Reach w at s → Reach w at (hearing w at i j s)
heard_reach w at i j s h some r = move r (heard_move w at i j s h some)

-- a link of two related networks that turns is a change
pub turned_reach : (w : World) (at : Lookup) (i j : ℕ) (up : Bool) (s : State) → w.rel i i ≡ Unrelated → both w i j ≡ true → related (w.rel i j) ≡ true → Reach w at s → Reach w at (turned w at i j up s)
turned_reach w at i j up s apart h tied r =
    let p = and_parts (ltb i w.n) (ltb j w.n) h in
    change r (turns s i j up (ltb-true i w.n p.0) (ltb-true j w.n p.1) (λ e. true≢false (sym tied ∙ ap (λ k. related (w.rel i k)) (sym e) ∙ ap related apart)) tied)

-- what people send is sent
pub sent_reach : (w : World) (at : Lookup) (i address : ℕ) (s : State) → i < w.n → Reach w at s → Reach w at (posted w at i address s)
sent_reach w at i address s h r = send r (sends s i address h refl)

-- what was prepared may take its place
pub ready : (x : Simulation) (next : State) (end : Option Ended) (a : Prepared) → Makes x next end a → (Reach (world_of x) (lookup_of x) (state_of x) → Reach (world_of x) (lookup_of x) next) → Ready x a
ready x next end a makes reach = record {
  fits = makes.fits;
  within = makes.within;
  reached = ∥∥₁_map x.reached (λ r. subst (Reach (world_of x) (lookup_of x)) (sym makes.state) (reach r));
}

pub heard_ready : (x : Simulation) (i j : ℕ) (a : Prepared) → both (world_of x) i j ≡ true → 0 < length ((state_of x).flight i j) → MakesHeard x i j a → Ready x a
heard_ready x i j a below some makes = ready x _ _ a makes (heard_reach (world_of x) (lookup_of x) i j (state_of x) below some)

pub sent_ready : (x : Simulation) (i address : ℕ) (a : Prepared) → i < (world_of x).n → MakesSent x i address a → Ready x a
sent_ready x i address a below makes = ready x _ _ a makes (sent_reach (world_of x) (lookup_of x) i address (state_of x) below)
