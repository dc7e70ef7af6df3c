-- What is heard until nothing is in flight is heard in some order, so each packet ends by its fate; and the fate of a packet
-- that is sent. Assumes nothing.
use Rattle.std.proofs.Common.{◌≡◌, ℕ, ◌<◌, Bool, true, false, ◌&&◌, eqb, ltb, List, [], ◌∷◌, ◌++◌, length, Option, sym, refl, ap, ◌∙◌, subst, arith}
use mathlib.Core.Bool.{Bool-set}
use mathlib.Core.Logic.{∥∥₁_elim, ∥∥₁_map}
use Rattle.std.proofs.lemmas.Bool.{and_from, and_parts, both_ways, eq-eqb, eqb-true, ltb-true}
use Rattle.model.specs.Packets.{Lookup, Trip, arrives, lost, on_its_way}
use Rattle.model.specs.Promise.{ArrivesHome}
use Rattle.model.specs.Run.{Item, Quiescent, State, fresh}
use Rattle.model.specs.World.{World}
use Rattle.model.specs.Ends.{Ended, ends, fate}
use Rattle.forwarding.specs.declared.packet.Ending.{Ending}
use Rattle.model.specs.Flight.{Heard, Still, none as nothing_heard}
use Rattle.model.specs.PacketLaws.{FateOfSent}
use Rattle.delivery.proofs.Alike.{alike, own_end, same_end}
use Rattle.delivery.proofs.Hearings.{heard_more}
use Rattle.delivery.proofs.Homes.{fates_at_home}
use Rattle.delivery.proofs.Once.{each_ends_once}
use Rattle.simulation.specs.Resting.{FatesTold, HeardAll, NextHeard, RestHears, more, none}
use Rattle.simulation.specs.Simulated.{lookup_of, state_of, world_of}
use Rattle.simulation.specs.Steps.{first_heard}
use Rattle.simulation.specs.declared.simulation.Simulation.{Simulation}
use Rattle.simulation.proofs.Lessening.{sound}

next_heard : (w : World) (at : Lookup) (s t u : State) (es : List Ended) (end : Option Ended) → Heard w at s t es → NextHeard w at t u end → Heard w at s u (es ++ ends end)
next_heard w at s t u es end h n = by (t.flight n.i n.j) refl n.some
  where
    below : (n.i < w.n) × (n.j < w.n)
    below = let p = and_parts (ltb n.i w.n) (ltb n.j w.n) n.below in (ltb-true n.i w.n p.0, ltb-true n.j w.n p.1)

    by : (q : List Item) → t.flight n.i n.j ≡ q → 0 < length q → Heard w at s u (es ++ ends end)
    by [] e l = absurd (omega arith)
    by (x ∷ rest) e l =
        subst {A = State × List Ended} (λ z. Heard w at s z.0 z.1)
        (λ y. (sym (n.step ∙ ap (λ items. first_heard w at n.i n.j items t) e) y, es ++ ends (sym n.came y)))
        (heard_more w at s t es h n.i n.j x rest below.0 below.1 e)

pub rest_hears : RestHears
rest_hears w at s _ _ none = nothing_heard s
rest_hears w at s u _ (more {t = t} {es = es} {end = end} h n) = next_heard w at s t u es end (rest_hears w at s t es h) n

-- where no update was in flight, each packet ends by its fate
pub fates_told : (x : Simulation) (t : State) (before after : List Ending) → HeardAll (world_of x) (lookup_of x) (state_of x) t before after → Still t → Quiescent (state_of x) → FatesTold (world_of x) (lookup_of x) (state_of x) before after
fates_told x t before after all still quiet = record {
  came = all.came;
  told = all.told;
  fates = ∥∥₁_map x.reached (λ r. each_ends_once (world_of x) (lookup_of x) (state_of x) r quiet t all.came (rest_hears (world_of x) (lookup_of x) (state_of x) t all.came all.hearings) still);
}

-- the test whether a trip ends at a home after so many steps
abbrev home_test : World → ℕ → ℕ → Trip → Bool
home_test w b steps (arrives i n) = w.is_home b i && eqb n steps
home_test w b steps (lost i n why) = false
home_test w b steps (on_its_way i) = false

to_test : (w : World) (b steps : ℕ) (t : Trip) → ArrivesHome w b steps t → home_test w b steps t ≡ true
to_test w b steps (arrives i n) h = and_from _ _ h.0 (eq-eqb n steps h.1)
to_test w b steps (lost i n why) h = absurd h
to_test w b steps (on_its_way i) h = absurd h

from_test : (w : World) (b steps : ℕ) (t : Trip) → home_test w b steps t ≡ true → ArrivesHome w b steps t
from_test w b steps (arrives i n) h = let p = and_parts _ _ h in (p.0, eqb-true n steps p.1)
from_test w b steps (lost i n why) h = both_ways false refl h
from_test w b steps (on_its_way i) h = both_ways false refl h

-- the fate of a packet that is sent where no update is in flight
module _ (x : Simulation) (i address : ℕ) (below : i < (world_of x).n) (quiet : Quiescent (state_of x)) where
  abbrev own : Ended
  own = fate (world_of x) (lookup_of x) (state_of x).locals i (fresh address)

  of_run : (e : Ended) → (FateOfSent (world_of x) (lookup_of x) (state_of x) i address → own ≡ e) → own ≡ e
  of_run e f = same_end own e (∥∥₁_elim x.reached (Bool-set _ _) (λ r. subst (λ z. alike own z ≡ true) (f (fates_at_home (world_of x) (lookup_of x) (sound x.relations x.blocks) (state_of x) r quiet i address below)) (own_end own)))

  -- the trip of the end
  trip_of_run : (t : Trip) → (FateOfSent (world_of x) (lookup_of x) (state_of x) i address → own.trip ≡ t) → own.trip ≡ t
  trip_of_run t f = ap (λ e. e.trip) (of_run (record { address = own.address; trip = t }) (λ h. λ z. record { address = own.address; trip = f h z }))

  pub fate_of_sent : FateOfSent (world_of x) (lookup_of x) (state_of x) i address
  fate_of_sent = record {
    kept = refl;
    at_home = λ b e h. trip_of_run _ (λ f. f.at_home b e h);
    over_path = λ b j path l e h. from_test (world_of x) b (length path.networks) own.trip
        (∥∥₁_elim x.reached (Bool-set _ _) (λ r. to_test (world_of x) b (length path.networks) own.trip ((fates_at_home (world_of x) (lookup_of x) (sound x.relations x.blocks) (state_of x) r quiet i address below).over_path b j path l e h)));
    no_path = λ b e h n. trip_of_run _ (λ f. f.no_path b e h n);
    no_block = λ e. trip_of_run _ (λ f. f.no_block e);
  }
