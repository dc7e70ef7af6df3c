-- The table of answers, in the cases A to F. Assumes nothing.
use Rattle.std.specs.Prelude.{List, [], ◌∷◌, codes}
use Rattle.std.specs.List.{AllByRecursion}
use Rattle.cases.specs.Rows.{first_address, last_address}
use Rattle.cases.specs.Table.{a, b, c, d, e, f, goes_a, goes_b, goes_c, goes_d, goes_e}
use Rattle.answered_cases.specs.Rows.{Holds, Row, Written, finds, refused, settles, unpaid}

-- F: the file of its ties, and what is told of it
abbrev pub written_f : Written
written_f = record {
  cyclic = f;
  file = 16 ∷ 4 ∷ 0 ∷ 3 ∷ 1 ∷ 2 ∷ 1 ∷ 2 ∷ 3 ∷ 1 ∷ 3 ∷ 1 ∷ 1 ∷ [];
  told = codes "fault 5 at end: a ring of customers: 1, 2, 3";
}

-- the table
abbrev pub rows : List Row
rows =
    settles a goes_a ∷
    settles b goes_b ∷
    settles c goes_c ∷
    unpaid c 2 (3 ∷ 1 ∷ 0 ∷ []) ∷
    settles d goes_d ∷
    settles e goes_e ∷
    refused written_f ∷
    finds (first_address ∷ []) (last_address ∷ []) ∷
    []

-- every row of the table holds
abbrev pub EveryAnswerHolds : Type 0
EveryAnswerHolds = AllByRecursion Holds rows
