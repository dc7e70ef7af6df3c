-- The rows hold. Assumes nothing.
use Rattle.std.proofs.Common.{[], ◌∷◌, refl, arith}
use Rattle.blocks.specs.Ranges.{block_among}
use Rattle.cases.specs.Rows.{first_address, last_address}
use Rattle.cases.specs.Table.{c, goes_c, a, goes_a, b, goes_b, d, goes_d, e, goes_e}
use Rattle.cases.proofs.Rows.{settles_a, settles_b, settles_c, settles_d, settles_e}
use Rattle.answered_cases.specs.Rows.{Finds}
use Rattle.answered_cases.specs.Table.{EveryAnswerHolds}
use Rattle.answered_cases.proofs.Answered.{settles, unpaid}
use Rattle.answered_cases.proofs.Refusing.{f_is_refused}

found : Finds (first_address ∷ []) (last_address ∷ [])
unfolding block_among
found address = refl

pub every_row : EveryAnswerHolds
every_row =
    (settles a goes_a settles_a, (settles b goes_b settles_b, (settles c goes_c settles_c, (unpaid c 2 _ (omega arith) refl (omega arith, refl, (omega arith, refl, (omega arith, refl, refl))), (settles d goes_d settles_d, (settles e goes_e settles_e, (f_is_refused, (found, tt))))))))
