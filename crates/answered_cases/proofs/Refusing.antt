-- A file of ties in which there is a cycle is refused with it. Assumes nothing.
use Rattle.std.proofs.Common.{◌≡◌, ℕ, ◌<◌, ◌≤◌, true, List, Ok, Err, Result, vec_items, sym, refl, ap, ◌∙◌, subst, arith}
use Rattle.std.specs.Fmt.{digits}
use Rattle.model.specs.Cycles.{Cycle as CycleOf, First}
use Rattle.relations.specs.declared.sound.Relations.{Relations}
use Rattle.model.proofs.Orders.{one_first}
use Rattle.ties.specs.Encoding.{encoding}
use Rattle.ties.specs.Words.{place_words, ring_words}
use Rattle.ties.specs.declared.refusal.Place.TheVariants.{End}
use Rattle.ties.specs.declared.refusal.Refusal.{Refusal}
use Rattle.ties.specs.declared.refusal.Refusal.TheVariants.{Fault, Cycle, Memory}
use Rattle.text.specs.Faults.{fault_words}
use Rattle.ties.specs.File.{after, ties as ties_of}
use Rattle.ties.specs.Faults.{Faultless}
use Rattle.ties.specs.Outcome.{Read}
use Rattle.ties.proofs.Back.{encoded_reads, no_fault}
use Rattle.cases.specs.Settings.{tied}
use Rattle.answered_cases.specs.Rows.{Refused, Tells, Written}
use Rattle.answered_cases.specs.Table.{written_f}
use Rattle.cases.proofs.Cycles.{f_is_first}
use Rattle.cases.proofs.Ties.{apart, both_ends, fit, within}

module _ (c : Written) (some : 0 < c.cyclic.networks) (few : c.cyclic.networks ≤ 64) (fits : fit c.cyclic.networks c.cyclic.ties ≡ true) (first : First (tied c.cyclic.ties) c.cyclic.cycle) (told : fault_words 5 (place_words End) (ring_words c.cyclic.cycle) ≡ c.told) where
  abbrev file : List ℕ
  file = encoding c.cyclic.networks (tied c.cyclic.ties)

  module _ (most : ℕ) (allowed : c.cyclic.networks ≤ most) where
    reads : Faultless most file × ((i j : ℕ) → after file (ties_of file) i j ≡ tied c.cyclic.ties i j)
    reads = encoded_reads most c.cyclic.networks (tied c.cyclic.ties) (record { some = some; few = few; both = both_ends c.cyclic.networks c.cyclic.ties fits; apart = apart c.cyclic.networks c.cyclic.ties fits; within = within c.cyclic.networks c.cyclic.ties fits }) allowed

    answered : (answer : Result Relations Refusal) → Read most file answer → Tells c answer
    answered (Ok r) read = r.acyclic c.cyclic.cycle (subst (λ rel. CycleOf rel c.cyclic.cycle) (λ k i j. sym (read.says i j ∙ reads.1 i j) k) first.cycle)
    answered (Err (Fault f)) read = no_fault most file f.place f.cause reads.0 read
    answered (Err (Cycle ring)) read =
        let same : vec_items ring ≡ c.cyclic.cycle = one_first (tied c.cyclic.ties) (vec_items ring) c.cyclic.cycle (subst (λ rel. First rel (vec_items ring)) (λ k i j. reads.1 i j k) read.1) first in
        (same, ap (λ r. fault_words 5 (place_words End) (ring_words r)) same ∙ told)
    answered (Err Memory) read = tt

  pub refused : file ≡ c.file → Refused c
  refused e =
      record { encoded = e; answered = λ most answer allowed read. answered most allowed answer (subst (λ bytes. Read most bytes answer) (sym e) read) }

pub f_is_refused : Refused written_f
unfolding digits
f_is_refused = refused written_f (omega arith) (omega arith) refl f_is_first refl refl
