-- A packet in flight is not refused, and its block is that of the list of blocks. Assumes nothing.
use Rattle.std.proofs.Common.{◌≡◌, ℕ, zero, suc, ◌<◌, ◌≤◌, Bool, true, false, cond, ◌&&◌, List, ◌∷◌, length, Some, None, Option, vec_items, sym, refl, ap, ◌∙◌, subst, arith}
use mathlib.Core.Path.{fun_ext}
use mathlib.Core.Bool.{Bool-set}
use mathlib.Core.Logic.{∥∥₁_elim}
use Rattle.std.proofs.lemmas.Bool.{lt-ltb}
use Rattle.model.specs.Relations.{related}
use Rattle.blocks.specs.Ranges.{block_among, block_at, holds, or_else}
use Rattle.blocks.specs.declared.blocks.Blocks.{Blocks}
use Rattle.model.specs.Local.{Local}
use Rattle.model.specs.Run.{Item, State}
use Rattle.model.specs.World.{World}
use Rattle.convergence.proofs.Keeping.{Kept, flies_up}
use Rattle.convergence.proofs.Steps.{run_kept}
use Rattle.forwarding.specs.declared.packet.Ending.{Ending}
use Rattle.delivery.proofs.Hops.{hops_fall}
use Rattle.simulation.specs.Posts.{inside, passed_on}
use Rattle.simulation.specs.declared.letter.Letter.{Letter}
use Rattle.simulation.specs.declared.network.Network.{Network}
use Rattle.simulation.specs.declared.simulation.Simulation.{Simulation}
use Rattle.simulation.proofs.Lessening.{sound}
use Rattle.blocks.specs.Shown.{firsts_of, lasts_of, lent_firsts, lent_lasts}
use Rattle.model.specs.Packets.{Forwarded, Lookup, Packet, arrived, dropped, forwarded, handed, packet_fault}
use Rattle.model.proofs.Faults.{no_packet_fault}
use Rattle.selection.specs.declared.world.World.{World as Lent}
use Rattle.forwarding.specs.Lookup.{below, lookup}
use Rattle.simulation.specs.Simulated.{lookup_of, state_of, world_of}
use Rattle.simulation.specs.Whole.{Carried, Got, Judged, blocks_in, forwarded_at, local, local_at, number_of, world_at}
use Rattle.simulation.proofs.Wholes.{IsLent, place_is}

-- a block that is found is one of the first k
found_below : (firsts lasts : List ℕ) (a k n : ℕ) → k ≤ n → (blocks : ℕ) → n ≡ blocks → below blocks (block_among firsts lasts a k) ≡ block_among firsts lasts a k
unfolding block_among
found_below firsts lasts a zero n l blocks e = refl
found_below firsts lasts a (suc k) n l blocks e = by (block_among firsts lasts a k) (holds firsts lasts a k) (found_below firsts lasts a k n (omega (arith, l)) blocks e)
  where
    by : (o : Option ℕ) (b : Bool) → below blocks o ≡ o → below blocks (or_else o (cond b (Some k) None)) ≡ or_else o (cond b (Some k) None)
    by (Some c) b h = h
    by None true h = ap (λ t. cond {A = Option ℕ} t (Some k) None) (lt-ltb k blocks (omega (arith, l, e)))
    by None false h = refl

pub same_lookup : (count : ℕ) (blocks : Blocks) (firsts lasts : List ℕ) → lent_firsts blocks ≡ firsts → lent_lasts blocks ≡ lasts → length firsts ≡ count → (a : ℕ) → lookup count blocks a ≡ block_at firsts lasts a
same_lookup count blocks firsts lasts f l e a = (λ z. below count (block_at (f z) (l z) a)) ∙ found_below firsts lasts a (length firsts) (length firsts) (omega arith) count e

-- where something is in flight in a state of a run, the link is up at the one that gets it, and the two are related
module _ (m : Simulation) (i j : ℕ) (x : Item) (rest : List Item) (flies : (state_of m).flight i j ≡ x ∷ rest) where
  abbrev w : World
  w = world_of m

  abbrev s : State
  s = state_of m

  up_there : Kept w s → (s.locals j).up i ≡ true
  up_there kept = sym (kept.both i j) ∙ flies_up w s kept i j x rest flies

  kept_up : (s.locals j).up i ≡ true
  kept_up = ∥∥₁_elim m.reached (Bool-set _ _) (λ r. up_there (run_kept w (lookup_of m) (sound m.relations m.blocks) r))

  kept_tied : related (w.rel j i) ≡ true
  kept_tied = ∥∥₁_elim m.reached (Bool-set _ _) (λ r. let kept = run_kept w (lookup_of m) (sound m.relations m.blocks) r in (kept.tied j i (up_there kept)).related)

  pub not_refused : i < w.n → packet_fault w j (s.locals j) i ≡ None
  not_refused below = no_packet_fault w j (s.locals j) i below kept_tied kept_up

-- what goes on is between networks that there are
pub inside_on : (w : World) (at : Lookup) (j : ℕ) (s : Local) (p : Packet) → j < w.n → (became : Forwarded) → forwarded w at j s p ≡ became → inside w.n (passed_on j became) ≡ true
inside_on w at j s p below arrived e = refl
inside_on w at j s p below (dropped why) e = refl
inside_on w at j s p below (handed k q) e = (λ z. (lt-ltb j w.n below z && lt-ltb k w.n (hops_fall w at j s p k q e).there z) && true)

-- a packet that network x, which is number j, got and did not refuse
module _ (m : Simulation) (world : Lent) (lent : IsLent m world) (j : ℕ) (x : Network) (blocks : Blocks) (number : number_of x ≡ j) (same : blocks_in x ≡ (world_of m).blocks) (own : local x ≡ local_at (vec_items m.networks) j) (first : lent_firsts blocks ≡ firsts_of m.blocks) (last : lent_lasts blocks ≡ lasts_of m.blocks) where
  abbrev here : World
  here = world_of m

  as_many : length (firsts_of m.blocks) ≡ here.blocks
  as_many = sym m.blocks.firsts.ok.0

  place : world_at world x ≡ here
  place = place_is m world x lent same

  pub passes_as : (p : Packet) → forwarded_at world x blocks p ≡ forwarded here (lookup_of m) j (local_at (vec_items m.networks) j) p
  passes_as p = (λ z. forwarded (place z) (lookup (same z) blocks) (number z) (own z) p) ∙ ap (λ at. forwarded here at j (local_at (vec_items m.networks) j) p) (fun_ext (same_lookup here.blocks blocks (firsts_of m.blocks) (lasts_of m.blocks) first last as_many))

  pub carried_as : (p : Packet) (before after : List Letter) (ending : Option Ending) → Carried x p (forwarded_at world x blocks p) before after ending → Carried x p (forwarded here (lookup_of m) j (local_at (vec_items m.networks) j) p) before after ending
  carried_as p before after ending = subst (λ b. Carried x p b before after ending) (passes_as p)

  pub got_as : (i : ℕ) (p : Packet) (before after : List Letter) (ending : Option Ending) → packet_fault here j (local_at (vec_items m.networks) j) i ≡ None → Got world x blocks i p before after ending → Carried x p (forwarded here (lookup_of m) j (local_at (vec_items m.networks) j) p) before after ending
  got_as i p before after ending clear got = carried_as p before after ending (subst (Judged world x blocks p before after ending) ((λ z. packet_fault (place z) (number z) (own z) i) ∙ clear) got)
