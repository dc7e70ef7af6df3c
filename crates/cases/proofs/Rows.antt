-- The rows hold, by computing. Assumes nothing.
use Rattle.std.proofs.Common.{◌≡◌, ℕ, List, [], ◌∷◌, ◌++◌, length, slice_index_or, refl, arith}
use Rattle.std.specs.List.{AllByRecursion}
use Rattle.model.specs.Selection.{Choice, nothing}
use Rattle.model.specs.Packets.{Lookup}
use Rattle.model.specs.Run.{begin}
use Rattle.model.specs.Steps.{start}
use Rattle.model.specs.Stable.{stable}
use Rattle.model.specs.World.{Sound}
use Rattle.cases.specs.Plays.{Plays}
use Rattle.cases.specs.Settings.{Setting, up, world}
use Rattle.cases.specs.Rows.{Holds, Row, Settles}
use Rattle.cases.specs.Table.{EveryCaseHolds, case_a, case_b, case_c, case_d, case_e, case_f, case_g, a, b, c, d, e, goes_a, goes_b, goes_c, goes_d, goes_e, inside, one_in_flight, outside, to_a, to_b, two_in_flight}
use Rattle.cases.proofs.Arriving.{along, at_home, found_inside, not_outside, sent_along, sent_at_home, sent_nowhere, sent_to_no_block}
use Rattle.cases.proofs.Lists.{same_below, values}
use Rattle.cases.proofs.Cycles.{f_is_first}
use Rattle.cases.proofs.Runs.{plays}
use Rattle.cases.proofs.Ties.{sound}

-- how high networks stand: those of no customer at 0, and a provider above its customers
heights : List ℕ → ℕ → ℕ
heights hs i = slice_index_or hs i 0

sound_a : Sound (world a)
unfolding heights
sound_a = sound a (heights (0 ∷ 1 ∷ 1 ∷ 0 ∷ [])) (omega arith) refl refl

sound_b : Sound (world b)
unfolding heights
sound_b = sound b (heights (0 ∷ 1 ∷ 1 ∷ 0 ∷ [])) (omega arith) refl refl

sound_c : Sound (world c)
unfolding heights
sound_c = sound c (heights (0 ∷ 1 ∷ 1 ∷ 0 ∷ [])) (omega arith) refl refl

sound_d : Sound (world d)
unfolding heights
sound_d = sound d (heights (0 ∷ 1 ∷ 2 ∷ [])) (omega arith) refl refl

sound_e : Sound (world e)
unfolding heights
sound_e = sound e (heights []) (omega arith) refl refl

settled : (s : Setting) (choices : List Choice) → Sound (world s) → length choices ≡ s.networks → values s.networks (stable (world s) (up s) 0) ≡ values s.networks (λ i. slice_index_or choices i nothing) → Settles s choices
settled s choices good each same =
    record {
      sound = good;
      each = each;
      chosen = same_below s.networks (stable (world s) (up s) 0) (λ i. slice_index_or choices i nothing) same;
    }

pub settles_a : Settles a goes_a
settles_a = settled a goes_a sound_a refl refl

pub settles_b : Settles b goes_b
settles_b = settled b goes_b sound_b refl refl

pub settles_c : Settles c goes_c
settles_c = settled c goes_c sound_c refl refl

pub settles_d : Settles d goes_d
settles_d = settled d goes_d sound_d refl refl

pub settles_e : Settles e goes_e
settles_e = settled e goes_e sound_e refl refl

plays_to_a : (at : Lookup) → Plays a at begin to_a
plays_to_a at = plays a at begin to_a (start (world a)) ((refl, refl, refl, refl), ((refl, refl, refl, refl), tt))

plays_to_b : (at : Lookup) → Plays a at begin to_b
plays_to_b at = plays a at begin to_b (start (world a)) ((refl, refl, refl, refl), ((refl, refl, refl, refl), ((refl, refl, refl, refl), ((refl, refl, refl, refl), tt))))

plays_one_in_flight : (at : Lookup) → Plays a at begin one_in_flight
plays_one_in_flight at = plays a at begin one_in_flight (start (world a)) ((refl, refl, refl, refl), ((refl, refl, refl, refl), ((refl, refl, refl, refl), ((refl, refl, refl, refl), tt))))

plays_two_in_flight : (at : Lookup) → Plays a at begin two_in_flight
plays_two_in_flight at = plays a at begin two_in_flight (start (world a)) ((refl, refl, refl, refl), ((refl, refl, refl, refl), ((refl, refl, refl, refl), ((refl, refl, refl, refl), ((refl, refl, refl, refl), ((refl, refl, refl, refl), tt))))))

-- rows that hold, one list after the other
all_of : (xs ys : List Row) → AllByRecursion Holds xs → AllByRecursion Holds ys → AllByRecursion Holds (xs ++ ys)
all_of [] ys h k = k
all_of (x ∷ xs) ys h k = (h.0, all_of xs ys h.1 k)

a_holds : AllByRecursion Holds case_a
a_holds = (settles_a, (plays_to_a, (along a sound_a 3 1 _ (omega arith) refl, (sent_along a sound_a 3 inside (omega arith) found_inside 1 _ refl, (sent_at_home a sound_a 0 inside (omega arith) found_inside refl, (sent_to_no_block a sound_a 3 outside (omega arith) not_outside, tt))))))

b_holds : AllByRecursion Holds case_b
b_holds = (settles_b, (refl, (refl, (plays_to_b, (along b sound_b 3 2 _ (omega arith) refl, (sent_along b sound_b 3 inside (omega arith) found_inside 2 _ refl, tt))))))

c_holds : AllByRecursion Holds case_c
c_holds = (settles_c, (sent_nowhere c sound_c 2 inside (omega arith) found_inside (λ e. omega (arith, e)) refl, (sent_along c sound_c 3 inside (omega arith) found_inside 1 _ refl, tt)))

d_holds : AllByRecursion Holds case_d
d_holds = (settles_d, (sent_along d sound_d 2 inside (omega arith) found_inside 1 _ refl, tt))

e_holds : AllByRecursion Holds case_e
e_holds = (settles_e, (at_home e sound_e, (sent_at_home e sound_e 0 inside (omega arith) found_inside refl, tt)))

f_holds : AllByRecursion Holds case_f
f_holds = (f_is_first, tt)

g_holds : AllByRecursion Holds case_g
g_holds = (plays_one_in_flight, (plays_two_in_flight, tt))

pub every_row : EveryCaseHolds
every_row =
    let from_f = all_of case_f case_g f_holds g_holds in
    let from_e = all_of case_e (case_f ++ case_g) e_holds from_f in
    let from_d = all_of case_d (case_e ++ case_f ++ case_g) d_holds from_e in
    let from_c = all_of case_c (case_d ++ case_e ++ case_f ++ case_g) c_holds from_d in
    let from_b = all_of case_b (case_c ++ case_d ++ case_e ++ case_f ++ case_g) b_holds from_c in
    all_of case_a (case_b ++ case_c ++ case_d ++ case_e ++ case_f ++ case_g) a_holds from_b
