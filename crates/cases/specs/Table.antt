-- The table: the cases A to G. Assumes nothing.
use Rattle.std.specs.Prelude.{ℕ, true, false, List, [], ◌∷◌, ◌++◌, Some, None}
use Rattle.std.specs.List.{AllByRecursion}
use Rattle.model.specs.Paths.{path_over}
use Rattle.model.specs.Selection.{Choice, nothing, local, via, Said}
use Rattle.model.specs.Packets.{arrives, lost}
use Rattle.model.specs.declared.drop_reason.DropReason.TheVariants.{NoBlock, NoRoute}
use Rattle.cases.specs.Settings.{Setting, customer_of, peers}
use Rattle.cases.specs.Plays.{Flight, Stage, Step, hear, turn}
use Rattle.cases.specs.Rows.{Cyclic, Holds, Row, settles, said, arrived, sent, cyclic, plays}

-- a path by a neighbour, and a path told, over these
abbrev pub by : ℕ → List ℕ → Choice
by j xs = via j (path_over xs)

abbrev pub over : List ℕ → Said
over xs = Some (path_over xs)

-- A: 0 is a customer of 1 and of 2, which are peers; 3 is a customer of both; all links are up
abbrev pub a : Setting
a = record {
  networks = 4;
  ties = customer_of 0 1 ∷ customer_of 0 2 ∷ peers 1 2 ∷ customer_of 3 1 ∷ customer_of 3 2 ∷ [];
  down = [];
  home = 0;
}

abbrev pub goes_a : List Choice
goes_a = local ∷ by 0 (0 ∷ []) ∷ by 0 (0 ∷ []) ∷ by 1 (1 ∷ 0 ∷ []) ∷ []

-- B: as A, but 0 and 1 have lost their link
abbrev pub b : Setting
b = record a { down = (0, 1) ∷ [] }

abbrev pub goes_b : List Choice
goes_b = local ∷ by 2 (2 ∷ 0 ∷ []) ∷ by 0 (0 ∷ []) ∷ by 2 (2 ∷ 0 ∷ []) ∷ []

-- C: 0 is a customer of 1, and 3 of 1 and of 2
abbrev pub c : Setting
c = record { networks = 4; ties = customer_of 0 1 ∷ customer_of 3 1 ∷ customer_of 3 2 ∷ []; down = []; home = 0 }

abbrev pub goes_c : List Choice
goes_c = local ∷ by 0 (0 ∷ []) ∷ nothing ∷ by 1 (1 ∷ 0 ∷ []) ∷ []

-- D: 0 is a customer of 1, 1 of 2, and 0 a peer of 2
abbrev pub d : Setting
d = record { networks = 3; ties = customer_of 0 1 ∷ peers 0 2 ∷ customer_of 1 2 ∷ []; down = []; home = 0 }

abbrev pub goes_d : List Choice
goes_d = local ∷ by 0 (0 ∷ []) ∷ by 1 (1 ∷ 0 ∷ []) ∷ []

-- E: a network alone
abbrev pub e : Setting
e = record { networks = 1; ties = []; down = []; home = 0 }

abbrev pub goes_e : List Choice
goes_e = local ∷ []

-- F: 1 is a customer of 2, 2 of 3, and 3 of 1
abbrev pub f : Cyclic
f = record {
  networks = 4;
  ties = customer_of 1 2 ∷ customer_of 2 3 ∷ customer_of 3 1 ∷ [];
  cycle = 1 ∷ 2 ∷ 3 ∷ [];
}

-- the steps from the beginning after which A is settled, but for an update in flight from 2 to 3
abbrev pub up_to_the_last : List Step
up_to_the_last =
    turn 0 1 true ∷ turn 0 2 true ∷ hear 0 1 ∷ hear 0 2 ∷ turn 1 2 true ∷ turn 1 3 true ∷ turn 2 3 true ∷
    hear 1 0 ∷ hear 2 0 ∷ hear 1 2 ∷ hear 2 1 ∷ hear 1 3 ∷ []

-- the first network tells the second these, the oldest first
abbrev pub tells : ℕ → ℕ → List Said → Flight
tells i j says = record { from = i; to = j; says = says }

-- after some steps these links are down, the networks go so, and this is in flight
abbrev pub then : List Step → List (ℕ × ℕ) → List Choice → List Flight → Stage
then steps down choices flights = record {
  steps = steps;
  then = record { down = down; choices = choices; flights = flights };
}

-- up to A, settled and with nothing in flight
abbrev pub to_a : List Stage
to_a =
    then up_to_the_last [] goes_a (tells 2 3 (over (2 ∷ 0 ∷ []) ∷ []) ∷ []) ∷
    then (hear 2 3 ∷ []) [] goes_a [] ∷ []

-- from A the link of 0 and 1 turns down: 1 takes back what it told 2, and they settle as in B
abbrev pub to_b : List Stage
to_b =
    to_a ++
    then
    (turn 0 1 false ∷ [])
    ((0, 1) ∷ [])
    (local ∷ by 2 (2 ∷ 0 ∷ []) ∷ by 0 (0 ∷ []) ∷ by 1 (1 ∷ 0 ∷ []) ∷ [])
    (tells 1 2 (None ∷ []) ∷ tells 1 3 (over (1 ∷ 2 ∷ 0 ∷ []) ∷ []) ∷ []) ∷
    then (hear 1 2 ∷ hear 1 3 ∷ []) ((0, 1) ∷ []) goes_b [] ∷ []

-- the link of 2 and 3 turns down and up: what was in flight is not heard, and 2 tells anew, once
abbrev pub flap : List Stage
flap =
    then (turn 2 3 false ∷ []) ((2, 3) ∷ []) goes_a [] ∷
    then (turn 2 3 true ∷ []) [] goes_a (tells 2 3 (over (2 ∷ 0 ∷ []) ∷ []) ∷ []) ∷
    then (hear 2 3 ∷ []) [] goes_a [] ∷ []

-- G: the last update on the way to A is in flight from 2 to 3 as their link turns
abbrev pub one_in_flight : List Stage
one_in_flight = then up_to_the_last [] goes_a (tells 2 3 (over (2 ∷ 0 ∷ []) ∷ []) ∷ []) ∷ flap

-- G again: from A the link of 0 and 2 turns down and up; all that is then told is heard, but for two updates from 2 to
-- 3, as their link turns
abbrev pub two_in_flight : List Stage
two_in_flight =
    to_a ++
    then
    (turn 0 2 false ∷ turn 0 2 true ∷ hear 0 2 ∷ hear 2 0 ∷ hear 2 0 ∷ hear 2 1 ∷ hear 2 1 ∷ [])
    []
    goes_a
    (tells 2 3 (over (2 ∷ 1 ∷ 0 ∷ []) ∷ over (2 ∷ 0 ∷ []) ∷ []) ∷ []) ∷
    flap

-- 10.0.0.1, in the block, and 10.0.1.0, in none
abbrev pub inside : ℕ
inside = 167772161

abbrev pub outside : ℕ
outside = 167772416

abbrev pub case_a : List Row
case_a =
    settles a goes_a ∷
    plays a to_a ∷
    arrived a 3 2 ∷
    sent a 3 inside (arrives 0 2) ∷
    sent a 0 inside (arrives 0 0) ∷
    sent a 3 outside (lost 3 0 NoBlock) ∷
    []

abbrev pub case_b : List Row
case_b =
    settles b goes_b ∷
    said b 1 2 None ∷
    said b 1 3 (over (1 ∷ 2 ∷ 0 ∷ [])) ∷
    plays a to_b ∷
    arrived b 3 2 ∷
    sent b 3 inside (arrives 0 2) ∷
    []

abbrev pub case_c : List Row
case_c = settles c goes_c ∷ sent c 2 inside (lost 2 0 NoRoute) ∷ sent c 3 inside (arrives 0 2) ∷ []

abbrev pub case_d : List Row
case_d = settles d goes_d ∷ sent d 2 inside (arrives 0 2) ∷ []

abbrev pub case_e : List Row
case_e = settles e goes_e ∷ arrived e 0 0 ∷ sent e 0 inside (arrives 0 0) ∷ []

abbrev pub case_f : List Row
case_f = cyclic f ∷ []

abbrev pub case_g : List Row
case_g = plays a one_in_flight ∷ plays a two_in_flight ∷ []

-- the table
abbrev pub rows : List Row
rows = case_a ++ case_b ++ case_c ++ case_d ++ case_e ++ case_f ++ case_g

-- every row of the table holds
abbrev pub EveryCaseHolds : Type 0
EveryCaseHolds = AllByRecursion Holds rows
