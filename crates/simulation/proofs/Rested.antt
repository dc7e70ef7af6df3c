-- Hearing keeps links, and when nothing is in flight the stable routing stands. Assumes nothing.
use Rattle.std.proofs.Common.{◌≡◌, ℕ, ◌<◌, cond, true, List, [], ◌∷◌, ◌++◌, map, Some, None, vec_items, Option, sym, refl, ap, ◌∙◌, subst, ⊎_elim}
use mathlib.Core.Logic.{∥∥₁_elim}
use Rattle.std.proofs.lemmas.Bool.{cases_eq, eq-eqb, ne_eqb}
use Rattle.model.specs.Hearing.{after_hearing, hearing_fault, only, replaced, unless}
use Rattle.model.specs.Local.{Local, Update, retold}
use Rattle.std.specs.Option.{option_map}
use Rattle.model.specs.Ends.{Ended, ends}
use Rattle.forwarding.specs.Forwarding.{ended_of}
use Rattle.forwarding.specs.declared.packet.Ending.{Ending}
use Rattle.simulation.specs.Posts.{posts}
use Rattle.simulation.specs.Whole.{whole}
use Rattle.model.specs.Packets.{Lookup}
use Rattle.model.specs.Promise.{Settled}
use Rattle.model.specs.Run.{Item, NoUpdate, Quiescent, State, links, packet, update}
use Rattle.model.specs.World.{World}
use Rattle.model.specs.declared.fault.Fault.{Fault}
use Rattle.model.specs.Levels.{Heights}
use Rattle.model.specs.Measure.{left}
use Rattle.convergence.proofs.Places.{at_own}
use Rattle.convergence.proofs.Quiescence.{settles}
use Rattle.model.specs.Flight.{Still}
use Rattle.simulation.specs.Resting.{Foremost, LowestOf, NextHeard, NextTold, lower}
use Rattle.simulation.specs.Simulated.{MakesHeard, letter_of, lookup_of, state_of, with_network, world_of}
use Rattle.simulation.specs.declared.prepared.Prepared.{Prepared}
use Rattle.simulation.specs.Steps.{first_heard}
use Rattle.simulation.specs.declared.simulation.Simulation.{Simulation}
use Rattle.simulation.proofs.Lessening.{heard_lessens, sound}
use Rattle.simulation.proofs.Sets.{choice_set, said_set}

up_kept : (w : World) (j i : ℕ) (u : Update) (l : Local) (f : Option Fault) (k : ℕ) → (unless f l (retold w j (only u.block) (replaced i u l))).up k ≡ l.up k
up_kept w j i u l (Some fault) k = refl
up_kept w j i u l None k = refl

links_first : (w : World) (at : Lookup) (i j : ℕ) (q : List Item) (s : State) (a k : ℕ) → links (first_heard w at i j q s) a k ≡ links s a k
links_first w at i j [] s a k = refl
links_first w at i j (packet p ∷ rest) s a k = ap (λ l. l.up k) (at_own j s.locals a)
links_first w at i j (update u ∷ rest) s a k =
    ⊎_elim
    (λ e. ap (λ t. (cond {A = Local} t (after_hearing w j i u (s.locals j)) (s.locals a)).up k) (eq-eqb a j e) ∙ up_kept w j i u (s.locals j) (hearing_fault w j (s.locals j) i u) k ∙ ap (λ b. (s.locals b).up k) (sym e))
    (λ ne. ap (λ t. (cond {A = Local} t (after_hearing w j i u (s.locals j)) (s.locals a)).up k) (ne_eqb a j ne))
    (cases_eq a j)

pub links_heard : (w : World) (at : Lookup) (s t : State) (end : Option Ended) → NextHeard w at s t end → (a k : ℕ) → links t a k ≡ links s a k
links_heard w at s t end h a k = ap (λ z. links z a k) h.step ∙ links_first w at h.i h.j (s.flight h.i h.j) s a k

pub next_lessens : (x : Simulation) (t : State) (height : ℕ → ℕ) → Heights (world_of x) height → (end : Option Ended) → NextHeard (world_of x) (lookup_of x) (state_of x) t end → left (world_of x) height t < left (world_of x) height (state_of x)
next_lessens x t height hs end h = heard_lessens x h.i h.j t h.below h.some h.step height hs

still_quiet : (s : State) → Still s → Quiescent s
still_quiet s h i j = subst NoUpdate (sym (h i j)) tt

pub settled : (x : Simulation) → Still (state_of x) → Settled (world_of x) (state_of x)
settled x h =
    let quiet = still_quiet (state_of x) h in
    let good = sound x.relations x.blocks in
    record {
      chosen = λ i b l m. ∥∥₁_elim x.reached (choice_set _ _) (λ r. (settles (world_of x) (lookup_of x) good (state_of x) r quiet).chosen i b l m);
      advertised = λ i k b l m n. ∥∥₁_elim x.reached (said_set _ _) (λ r. (settles (world_of x) (lookup_of x) good (state_of x) r quiet).advertised i k b l m n);
      received = λ i j b l m n. ∥∥₁_elim x.reached (said_set _ _) (λ r. (settles (world_of x) (lookup_of x) good (state_of x) r quiet).received i j b l m n);
    }

-- the oldest of the lowest pair was heard, and the end that came is told
pub next_told : (x : Simulation) (k : ℕ) (a : Prepared) (t : State) (before after : List Ending) → Foremost x k → MakesHeard x (letter_of x k).from (letter_of x k).to a → t ≡ whole (with_network (vec_items x.networks) a.network) (vec_items a.letters) → map ended_of after ≡ map ended_of before ++ ends (option_map ended_of a.ending) → NextTold (world_of x) (lookup_of x) (state_of x) t before after
next_told x k a t before after foremost makes state told = record {
  end = option_map ended_of a.ending;
  heard = record { i = (letter_of x k).from; j = (letter_of x k).to; below = foremost.below; some = foremost.some; lowest = lowest_of foremost.lowest; step = state ∙ makes.state; came = makes.ended };
  told = told;
}
  where
    lowest_of : LowestOf (posts (vec_items x.letters)) (Some ((letter_of x k).from, (letter_of x k).to)) → (a c : ℕ) → lower a c (letter_of x k).from (letter_of x k).to ≡ true → (state_of x).flight a c ≡ []
    lowest_of low = low.1
