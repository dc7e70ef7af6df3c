-- A prepared step is the step of the model. Assumes nothing.
use Rattle.std.proofs.Common.{◌≡◌, true, false, vec_items, Vec, Option, Some, None, ℕ, zero, suc, ◌+◌, ◌<◌, Bool, cond, eqb, List, [], ◌∷◌, ◌++◌, map, length, get_or, take, drop, set, sym, refl, ap, ◌∙◌, ⊎_elim, arith, length-set, subst}
use Rattle.std.specs.List.{filter}
use lib.ListN.{length-map}
use lib.Seq.{map-set}
use Rattle.std.proofs.lemmas.List.{drop-map, get_or-map, get_or-set_other, get_or-set_same, map-append, take-map}
use Rattle.std.proofs.lemmas.Bool.{and_parts, ltb-true, cases_eq, eq-eqb, ne_eqb}
use Rattle.relations.specs.Sound.{networks}
use Rattle.relations.specs.declared.sound.Relations.{Relations}
use Rattle.model.specs.Hearing.{after_hearing, after_turning, every, forgotten, hearing_fault, only, outbox_on_hearing, outbox_on_turning, replaced, sent_on_hearing, sent_on_turning, turning_fault}
use Rattle.model.specs.Local.{Update, at, silent}
use Rattle.model.specs.Packets.{Packet, Forwarded, forwarded}
use Rattle.model.specs.Run.{Item, State, onward, packet, turned, update, updates}
use Rattle.model.specs.Steps.{appended, queued}
use Rattle.model.specs.World.{World}
use Rattle.simulation.proofs.Posted.{Front}
use Rattle.model.specs.Ends.{end_at, end_of_first}
use Rattle.forwarding.specs.declared.packet.Ending.{Ending}
use Rattle.simulation.specs.Posting.{is_update, updates_sent}
use Rattle.simulation.specs.Posts.{Post, cut, flying, inside, mail, meant, passed_on, posts}
use Rattle.simulation.specs.Steps.{updates_in_flight, both, first_heard}
use Rattle.simulation.specs.Whole.{BothTurned, Carried, Heard, blocks_in, local, local_at, number_of, whole, world_at}
use Rattle.simulation.specs.declared.letter.Letter.{Letter}
use Rattle.simulation.specs.declared.network.Network.{Network}
use Rattle.blocks.specs.Shown.{homes_of}
use Rattle.convergence.proofs.Places.{at_own}
use Rattle.selection.specs.Worlds.{world_by}
use Rattle.selection.specs.declared.world.World.{World as Lent}
use Rattle.simulation.specs.Simulated.{Makes, MakesHeard, MakesTwo, lookup_of, state_of, world_of}
use Rattle.std.specs.declared.alloc.Global.{Global}
use Rattle.simulation.specs.declared.simulation.Simulation.{Simulation}
use Rattle.simulation.proofs.Counting.{counted, inside_append, inside_cut, inside_mail, inside_without}
use Rattle.simulation.proofs.Flights.{between_passed, between_unless, flying_appended, flying_cut, flying_without, lost_one}

-- one network made anew
pub local_set : (xs : List Network) (j : ℕ) (y : Network) (a : ℕ) → j < length xs → local_at (set xs j y) a ≡ at j (local y) (local_at xs) a
local_set xs j y a l =
    ap (λ zs. get_or zs a silent) (map-set local xs j y) ∙
    ⊎_elim
    (λ e. ap (λ b. get_or (set (map local xs) j (local y)) b silent) e ∙ get_or-set_same (map local xs) j (local y) silent (omega (arith, length-map xs local)) ∙ sym (ap (λ t. cond t (local y) (local_at xs a)) (eq-eqb a j e)))
    (λ ne. get_or-set_other (map local xs) j a (local y) silent ne ∙ sym (ap (λ t. cond t (local y) (local_at xs a)) (ne_eqb a j ne)))
    (cases_eq a j)

pub number_set : (xs : List Network) (j : ℕ) (y : Network) → number_of y ≡ j → ((i : ℕ) → get_or (map number_of xs) i i ≡ i) → (i : ℕ) → get_or (map number_of (set xs j y)) i i ≡ i
number_set xs j y e h i = ap (λ zs. get_or zs i i) (map-set number_of xs j y ∙ ap (set (map number_of xs) j) e) ∙ kept (map number_of xs) j i (h i)
  where
    kept : (ns : List ℕ) (j i : ℕ) → get_or ns i i ≡ i → get_or (set ns j j) i i ≡ i
    kept ns j i h =
        ⊎_elim
        (λ e. ap (λ b. get_or (set ns b b) i i) (sym e) ∙ own ns i)
        (λ ne. get_or-set_other ns j i j i ne ∙ h)
        (cases_eq i j)
      where
        own : (ns : List ℕ) (i : ℕ) → get_or (set ns i i) i i ≡ i
        own ns i = at_place ns i i
          where
            at_place : (ns : List ℕ) (k v : ℕ) → get_or (set ns k v) k v ≡ v
            at_place [] k v = refl
            at_place (n ∷ ns) zero v = refl
            at_place (n ∷ ns) (suc k) v = at_place ns k v

pub blocks_set : (xs : List Network) (j : ℕ) (y : Network) (blocks : ℕ) → blocks_in y ≡ blocks → ((i : ℕ) → get_or (map blocks_in xs) i blocks ≡ blocks) → (i : ℕ) → get_or (map blocks_in (set xs j y)) i blocks ≡ blocks
blocks_set xs j y blocks e h i = ap (λ zs. get_or zs i blocks) (map-set blocks_in xs j y ∙ ap (set (map blocks_in xs) j) e) ∙ kept (map blocks_in xs) j i h
  where
    kept : (ns : List ℕ) (j i : ℕ) → ((i : ℕ) → get_or ns i blocks ≡ blocks) → get_or (set ns j blocks) i blocks ≡ blocks
    kept [] j i h = refl
    kept (n ∷ ns) zero zero h = refl
    kept (n ∷ ns) zero (suc i) h = h (suc i)
    kept (n ∷ ns) (suc j) zero h = h 0
    kept (n ∷ ns) (suc j) (suc i) h = kept ns j i (λ k. h (suc k))

-- the network at a place
pub number_at : (xs : List Network) (j : ℕ) (x : Network) → j < length xs → x ≡ get_or xs j x → get_or (map number_of xs) j j ≡ j → number_of x ≡ j
number_at xs j x l e h = ap number_of e ∙ sym (get_or-map number_of xs j x j l) ∙ h

pub blocks_at : (xs : List Network) (j : ℕ) (x : Network) (blocks : ℕ) → j < length xs → x ≡ get_or xs j x → get_or (map blocks_in xs) j blocks ≡ blocks → blocks_in x ≡ blocks
blocks_at xs j x blocks l e h = ap blocks_in e ∙ sym (get_or-map blocks_in xs j x blocks l) ∙ h

-- what is lent says what a simulation holds
pub record IsLent (m : Simulation) (world : Lent) : Type 0 where
  pub relations : world.relations.now ≡ m.relations
  pub homes : world.homes.now ≡ homes_of m.blocks

pub place_is : (m : Simulation) (world : Lent) (x : Network) → IsLent m world → blocks_in x ≡ (world_of m).blocks → world_at world x ≡ world_of m
place_is m world x lent same = λ z. world_by (lent.relations z) (lent.homes z) (same z)

pub local_here : (xs : List Network) (j : ℕ) (x : Network) → j < length xs → x ≡ get_or xs j x → local x ≡ local_at xs j
local_here xs j x l e = ap local e ∙ sym (get_or-map local xs j x silent l)

posts_without : (k : ℕ) (ls : List Letter) → posts (take k ls ++ drop (k + 1) ls) ≡ take k (posts ls) ++ drop (k + 1) (posts ls)
posts_without k ls = map-append meant (take k ls) (drop (k + 1) ls) ∙ sym (λ x. take-map meant k ls x ++ drop-map meant (k + 1) ls x)

pub heard_some : (i j k : ℕ) (u : Item) (ls : List Letter) → Front i j k u (posts ls) → 0 < length (flying (posts ls) i j)
heard_some i j k u ls old = let e = ap length (lost_one i j k u (posts ls) old) in omega (arith, e)

module _ (m : Simulation) where
  abbrev r : Relations
  r = m.relations

  abbrev xs : List Network
  xs = vec_items m.networks

  abbrev ls : List Letter
  ls = vec_items m.letters

  abbrev w : World
  w = world_of m

  here : (j : ℕ) → j < networks r → j < length xs
  here j h = omega (arith, h, m.all, m.networks.ok.0)

  -- network x, which is number j, heard the oldest from i
  module _ (i j k : ℕ) (x : Network) (below : both w i j ≡ true) (e : x ≡ get_or xs j x) where
    hj : j < networks r
    hj = ltb-true j _ (and_parts _ _ below).1

    number : number_of x ≡ j
    number = number_at xs j x (here j hj) e (m.numbers j)

    same : blocks_in x ≡ w.blocks
    same = blocks_at xs j x w.blocks (here j hj) e (m.same j)

    own : local x ≡ local_at xs j
    own = local_here xs j x (here j hj) e

    abbrev rest : List Post
    rest = take k (posts ls) ++ drop (k + 1) (posts ls)

    -- it was an update
    module _ (u : Update) (y : Network) (left : List Letter) (after : Vec Letter Global) (old : Front i j k (update u) (posts ls)) (cut_out : left ≡ take k ls ++ drop (k + 1) ls) (world : Lent) (lent : IsLent m world) (step : Heard world x i u left (vec_items after) y) where
      place : world_at world x ≡ w
      place = place_is m world x lent same

      holds : local y ≡ after_hearing w j i u (local_at xs j)
      holds = step.holds ∙ (λ z. after_hearing (place z) (number z) i u (own z))

      all_letters : posts (vec_items after) ≡ rest ++ mail j (outbox_on_hearing w j i u (local_at xs j))
      all_letters = step.letters ∙ (λ z. (ap posts cut_out ∙ posts_without k ls) z ++ mail (number z) (outbox_on_hearing (place z) (number z) i u (own z)))

      flights : (a c : ℕ) → flying (posts (vec_items after)) a c ≡ appended j (λ n. updates (sent_on_hearing w j i u (local_at xs j) n)) (queued i j (flying rest i j) (flying (posts ls))) a c
      flights a c =
          ap (λ ps. flying ps a c) all_letters ∙
          flying_appended rest (mail j (outbox_on_hearing w j i u (local_at xs j))) j (λ n. updates (sent_on_hearing w j i u (local_at xs j) n)) (between_unless w j (only u.block) (replaced i u (local_at xs j)) (hearing_fault w j (local_at xs j) i u)) a c ∙
          ap (λ q. cond (eqb a j) (q ++ updates (sent_on_hearing w j i u (local_at xs j) c)) q) (flying_without i j k (update u) (posts ls) old a c)

      pub heard_prepared : MakesHeard m i j (record { network = Some y; letters = after; ending = None })
      heard_prepared = record {
        fits = (subst (λ n. n < networks r) (sym (step.number ∙ number)) hj, step.blocks ∙ same);
        within = ap (inside (networks r)) all_letters ∙ inside_append (networks r) rest (mail j (outbox_on_hearing w j i u (local_at xs j))) (inside_without (networks r) k (posts ls) m.within) (inside_mail w j (only u.block) (replaced i u (local_at xs j)) (hearing_fault w j (local_at xs j) i u) hj);
        state =
            ap (λ n. whole (set xs n y) (vec_items after)) (step.number ∙ number) ∙
            (λ z. record { locals = λ a. (local_set xs j y a (here j hj) ∙ ap (λ h. at j h (local_at xs) a) holds) z; flight = λ a c. flights a c z }) ∙
            sym (ap (λ q. first_heard w (lookup_of m) i j q (state_of m)) (lost_one i j k (update u) (posts ls) old));
        ended = sym (ap (λ q. end_of_first w (lookup_of m) j (local_at xs j) q) (lost_one i j k (update u) (posts ls) old));
      }

    -- it was a packet, and became this
    module _ (p : Packet) (left : List Letter) (after : Vec Letter Global) (ending : Option Ending) (old : Front i j k (packet p) (posts ls)) (cut_out : left ≡ take k ls ++ drop (k + 1) ls) (carried : Carried x p (forwarded w (lookup_of m) j (local_at xs j) p) left (vec_items after) ending) where
      abbrev pub became : Forwarded
      became = forwarded w (lookup_of m) j (local_at xs j) p

      carried_letters : posts (vec_items after) ≡ rest ++ passed_on j became
      carried_letters = carried.letters ∙ (λ z. (ap posts cut_out ∙ posts_without k ls) z ++ passed_on (number z) became)

      carried_flights : (a c : ℕ) → flying (posts (vec_items after)) a c ≡ appended j (onward became) (queued i j (flying rest i j) (flying (posts ls))) a c
      carried_flights a c =
          ap (λ ps. flying ps a c) carried_letters ∙
          flying_appended rest (passed_on j became) j (onward became) (between_passed j became) a c ∙
          ap (λ q. cond (eqb a j) (q ++ onward became c) q) (flying_without i j k (packet p) (posts ls) old a c)

      pub carried_prepared : inside (networks r) (passed_on j became) ≡ true → MakesHeard m i j (record { network = None; letters = after; ending = ending })
      carried_prepared inside_on = record {
        fits = tt;
        within = ap (inside (networks r)) carried_letters ∙ inside_append (networks r) rest (passed_on j became) (inside_without (networks r) k (posts ls) m.within) inside_on;
        state =
            (λ z. record { locals = λ a. sym (at_own j (local_at xs) a) z; flight = λ a c. carried_flights a c z }) ∙
            sym (ap (λ q. first_heard w (lookup_of m) i j q (state_of m)) (lost_one i j k (packet p) (posts ls) old));
        ended =
            carried.end ∙ ap (λ n. end_at n p became) number ∙
            sym (ap (λ q. end_of_first w (lookup_of m) j (local_at xs j) q) (lost_one i j k (packet p) (posts ls) old));
      }

  -- the people of network x, which is number i, sent a packet, and it became this
  module _ (i : ℕ) (x : Network) (p : Packet) (sent : List Letter) (then : Vec Letter Global) (ending : Option Ending) (number : number_of x ≡ i) (copied : sent ≡ ls) (carried : Carried x p (forwarded w (lookup_of m) i (local_at xs i) p) sent (vec_items then) ending) where
    abbrev pub goes : Forwarded
    goes = forwarded w (lookup_of m) i (local_at xs i) p

    sent_letters : posts (vec_items then) ≡ posts ls ++ passed_on i goes
    sent_letters = carried.letters ∙ (λ z. posts (copied z) ++ passed_on (number z) goes)

    pub sent_prepared : inside (networks r) (passed_on i goes) ≡ true → Makes m (record { locals = at i (local_at xs i) (local_at xs); flight = appended i (onward goes) (flying (posts ls)) }) (end_at i p goes) (record { network = None; letters = then; ending = ending })
    sent_prepared inside_on = record {
      fits = tt;
      within = ap (inside (networks r)) sent_letters ∙ inside_append (networks r) (posts ls) (passed_on i goes) m.within inside_on;
      state = λ z. record { locals = λ a. sym (at_own i (local_at xs) a) z; flight = λ a c. (ap (λ ps. flying ps a c) sent_letters ∙ flying_appended (posts ls) (passed_on i goes) i (onward goes) (between_passed i goes) a c) z };
      ended = carried.end ∙ ap (λ n. end_at n p goes) number;
    }

  -- the link of i and j turned: x, which is number i, stepped, and then z, which is number j
  module _ (i j : ℕ) (up : Bool) (x x' z z' : Network) (left after : List Letter) (hi : i < networks r) (hj : j < networks r) (ei : x ≡ get_or xs i x) (ej : z ≡ get_or xs j z) (cut_out : posts left ≡ cut i j (posts ls)) (world : Lent) (lent : IsLent m world) (turned_both : BothTurned world x z up left after (x', z')) where
    ni : number_of x ≡ i
    ni = number_at xs i x (here i hi) ei (m.numbers i)

    nj : number_of z ≡ j
    nj = number_at xs j z (here j hj) ej (m.numbers j)

    si : blocks_in x ≡ w.blocks
    si = blocks_at xs i x w.blocks (here i hi) ei (m.same i)

    sj : blocks_in z ≡ w.blocks
    sj = blocks_at xs j z w.blocks (here j hj) ej (m.same j)

    pi : world_at world x ≡ w
    pi = place_is m world x lent si

    pj : world_at world z ≡ w
    pj = place_is m world z lent sj

    one_holds : local x' ≡ after_turning w i j up (local_at xs i)
    one_holds = turned_both.holds ∙ (λ t. after_turning (pi t) (ni t) (nj t) up (local_here xs i x (here i hi) ei t))

    other_holds : local z' ≡ after_turning w j i up (local_at xs j)
    other_holds = turned_both.holds2 ∙ (λ t. after_turning (pj t) (nj t) (ni t) up (local_here xs j z (here j hj) ej t))

    sent_both : posts after ≡ (cut i j (posts ls) ++ mail i (outbox_on_turning w i j up (local_at xs i))) ++ mail j (outbox_on_turning w j i up (local_at xs j))
    sent_both = turned_both.letters ∙ (λ t. (cut_out t ++ mail (ni t) (outbox_on_turning (pi t) (ni t) (nj t) up (local_here xs i x (here i hi) ei t))) ++ mail (nj t) (outbox_on_turning (pj t) (nj t) (ni t) up (local_here xs j z (here j hj) ej t)))

    turned_flights : (a c : ℕ) → flying (posts after) a c ≡ appended j (λ n. updates (sent_on_turning w j i up (local_at xs j) n)) (appended i (λ n. updates (sent_on_turning w i j up (local_at xs i) n)) (queued i j [] (queued j i [] (flying (posts ls))))) a c
    turned_flights a c =
        ap (λ ps. flying ps a c) sent_both ∙
        flying_appended (cut i j (posts ls) ++ mail i (outbox_on_turning w i j up (local_at xs i))) (mail j (outbox_on_turning w j i up (local_at xs j))) j (λ n. updates (sent_on_turning w j i up (local_at xs j) n)) (between_unless w j every (forgotten i up (local_at xs j)) (turning_fault w j i)) a c ∙
        ap (λ q. cond (eqb a j) (q ++ updates (sent_on_turning w j i up (local_at xs j) c)) q)
        (flying_appended (cut i j (posts ls)) (mail i (outbox_on_turning w i j up (local_at xs i))) i (λ n. updates (sent_on_turning w i j up (local_at xs i) n)) (between_unless w i every (forgotten j up (local_at xs i)) (turning_fault w i j)) a c ∙ ap (λ q. cond (eqb a i) (q ++ updates (sent_on_turning w i j up (local_at xs i) c)) q) (flying_cut i j (posts ls) a c))

    turned_locals : (a : ℕ) → local_at (set (set xs j z') i x') a ≡ at i (after_turning w i j up (local_at xs i)) (at j (after_turning w j i up (local_at xs j)) (local_at xs)) a
    turned_locals a =
        local_set (set xs j z') i x' a (omega (arith, here i hi, length-set xs j z')) ∙
        (λ t. cond (eqb a i) (one_holds t) ((local_set xs j z' a (here j hj) ∙ ap (λ h. at j h (local_at xs) a) other_holds) t))

    pub turned_prepared : MakesTwo m i j (turned w (lookup_of m) i j up (state_of m)) x' z' after
    turned_prepared = record {
      number = turned_both.number ∙ ni;
      number2 = turned_both.number2 ∙ nj;
      blocks = turned_both.blocks ∙ si;
      blocks2 = turned_both.blocks2 ∙ sj;
      within =
          ap (inside (networks r)) sent_both ∙
          inside_append (networks r) (cut i j (posts ls) ++ mail i (outbox_on_turning w i j up (local_at xs i))) (mail j (outbox_on_turning w j i up (local_at xs j))) (inside_append (networks r) (cut i j (posts ls)) (mail i (outbox_on_turning w i j up (local_at xs i))) (inside_cut (networks r) i j (posts ls) m.within) (inside_mail w i every (forgotten j up (local_at xs i)) (turning_fault w i j) hi)) (inside_mail w j every (forgotten i up (local_at xs j)) (turning_fault w j i) hj);
      state = λ t. record { locals = λ a. turned_locals a t; flight = λ a c. turned_flights a c t };
    }

-- as many updates are in flight as there are among the letters
one_each : {X Y : Type 0} (b : Bool) (x : X) (y : Y) (us : List X) (vs : List Y) → length us ≡ length vs → length (cond b (x ∷ us) us) ≡ length (cond b (y ∷ vs) vs)
one_each true x y us vs e = ap suc e
one_each false x y us vs e = e

of_letters : (sent : List Letter) → length (filter (λ p. is_update p.what) (posts sent)) ≡ updates_sent sent
of_letters [] = refl
of_letters (l ∷ sent) = one_each (is_update (meant l).what) (meant l) l _ _ (of_letters sent)

pub crowded : (m : Simulation) (nets : List Network) (posted given : List Letter) (t : State) → inside (networks m.relations) (posts posted) ≡ true → whole nets posted ≡ t → given ≡ posted → updates_in_flight (world_of m) t ≡ updates_sent given
crowded m nets posted given t within is kept = sym (ap (updates_in_flight (world_of m)) is) ∙ counted (networks m.relations) (posts posted) within ∙ of_letters posted ∙ sym (ap updates_sent kept)
