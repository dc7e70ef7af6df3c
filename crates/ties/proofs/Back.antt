-- Reading and writing a ties file undo each other. Assumes nothing.
use Rattle.std.proofs.Common.{◌≡◌, ℕ, ◌<◌, ◌≤◌, List, Ok, Err, vec_items, sym, refl, ◌∙◌, subst}
use Rattle.std.proofs.lemmas.Option.{none-some}
use Rattle.model.specs.Cycles.{Cycle as CycleOf, First}
use Rattle.relations.specs.Sound.{networks as networks_of, relation as relation_of}
use Rattle.relations.specs.declared.sound.Relations.{Relations}
use Rattle.relations.proofs.Tables.{within}
use Rattle.ties.specs.declared.refusal.Cause.{Cause}
use Rattle.ties.specs.declared.refusal.Place.{Place}
use Rattle.ties.specs.declared.refusal.Place.TheVariants.{Head, Tie, End}
use Rattle.ties.specs.declared.refusal.Refusal.TheVariants.{Fault, Cycle, Memory}
use Rattle.ties.specs.File.{ties, after}
use Rattle.ties.specs.Faults.{Faultless, FirstFault}
use Rattle.ties.specs.Encoding.{encoding}
use Rattle.ties.specs.Laws.{EncodedReads, ReadsBack}
use Rattle.ties.proofs.Encoded.{encoded_says, encoded_faultless}

pub encoded_reads : EncodedReads
encoded_reads most n rel a allowed =
    (encoded_faultless n rel a.both a.apart a.within most a.some a.few allowed, encoded_says n rel a.both a.apart a.within)

-- a file with no fault has no first fault
pub no_fault : (most : ℕ) (bs : List ℕ) (p : Place) (c : Cause) → Faultless most bs → FirstFault most bs p c → ⊥
no_fault most bs Head c f e = none-some c (sym f.head ∙ e)
no_fault most bs (Tie k) c f e = none-some c (sym (f.each k e.1.1) ∙ e.1.2)
no_fault most bs End c f e = none-some c (sym f.end ∙ e.2)

module _ (most : ℕ) (r : Relations) (some : 0 < networks_of r) (allowed : networks_of r ≤ most) where
  abbrev file : List ℕ
  file = encoding (networks_of r) (relation_of r)

  clean : Faultless most file
  clean = encoded_faultless (networks_of r) (relation_of r) r.matrix.«mutual» r.matrix.apart (within r.matrix) most some r.matrix.few allowed

  says : (i j : ℕ) → after file (ties file) i j ≡ relation_of r i j
  says = encoded_says (networks_of r) (relation_of r) r.matrix.«mutual» r.matrix.apart (within r.matrix)

  no_cycle : (ring : List ℕ) → First (after file (ties file)) ring → ⊥
  no_cycle ring f =
      r.acyclic ring (subst (λ rel. CycleOf rel ring) (λ k i j. says i j k) f.cycle)

pub reads_back : ReadsBack
reads_back most r (Ok s) some allowed read = (read.count, λ i j. read.says i j ∙ says most r some allowed i j)
reads_back most r (Err (Fault f)) some allowed read = absurd (no_fault most _ f.place f.cause (clean most r some allowed) read)
reads_back most r (Err (Cycle ring)) some allowed read = absurd (no_cycle most r some allowed (vec_items ring) read.1)
reads_back most r (Err Memory) some allowed read = refl
