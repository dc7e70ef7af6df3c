-- Reading and writing a block file undo each other. Assumes nothing.
use Rattle.std.proofs.Common.{ℕ, List, Ok, Err, sym, refl, ◌∙◌}
use Rattle.std.proofs.lemmas.Option.{none-some}
use Rattle.blocks.specs.declared.refusal.Cause.{Cause}
use Rattle.blocks.specs.declared.refusal.Place.{Place}
use Rattle.blocks.specs.declared.refusal.Place.TheVariants.{Head, Block, End}
use Rattle.blocks.specs.declared.refusal.Refusal.TheVariants.{Fault, Memory}
use Rattle.blocks.specs.Faults.{Faultless, FirstFault}
use Rattle.blocks.specs.Laws.{ReadsBack}
use Rattle.blocks.proofs.Encoded.{encoded_reads}

-- a file with no fault has no first fault
no_fault : (n most : ℕ) (bs : List ℕ) (p : Place) (c : Cause) → Faultless n most bs → FirstFault n most bs p c → ⊥
no_fault n most bs Head c f e = none-some c (sym f.head ∙ e)
no_fault n most bs (Block k) c f e = none-some c (sym (f.each k e.1.1) ∙ e.1.2)
no_fault n most bs End c f e = none-some c (sym f.end ∙ e.2)

pub reads_back : ReadsBack
reads_back n most r (Ok s) p allowed read =
    let back = encoded_reads n most _ _ _ p allowed in
    record { firsts = read.says.firsts ∙ back.1; lasts = read.says.lasts ∙ back.2; homes = read.says.homes ∙ back.3 }
reads_back n most r (Err (Fault f)) p allowed read = absurd (no_fault n most _ f.place f.cause (encoded_reads n most _ _ _ p allowed).0 read)
reads_back n most r (Err Memory) p allowed read = refl
