-- Reading and writing a ties file undo each other. Assumes nothing.
use Rattle.std.specs.Prelude.{◌≡◌, ℕ, ◌<◌, ◌≤◌, List, Ok, Err, Result, slice_index}
use Rattle.model.specs.Relations.{Between, Mutual, Apart, Within}
use Rattle.relations.specs.Sound.{networks as networks_of, relation as relation_of}
use Rattle.model.specs.declared.limits.TheConstants.{MOST_NETWORKS as MOST}
use Rattle.relations.specs.declared.sound.Relations.{Relations}
use Rattle.ties.specs.declared.refusal.Refusal.{Refusal}
use Rattle.ties.specs.declared.refusal.Refusal.TheVariants.{Memory}
use Rattle.ties.specs.File.{networks, ties, after}
use Rattle.ties.specs.Faults.{Faultless}
use Rattle.ties.specs.Encoding.{encoding, file_of}
use Rattle.ties.specs.Outcome.{Read}

-- relations between n networks in which both ends say the same
pub record Agreed (n : ℕ) (rel : Between) : Type 0 where
  pub some : 0 < n
  pub few : n ≤ MOST
  pub both : Mutual rel
  pub apart : Apart rel
  pub within : Within n rel

-- a file has no fault exactly if it is the encoding of such relations
abbrev pub ReadEncodes : Type 0
ReadEncodes =
    (most : ℕ) (bs : List ℕ) → slice_index bs 3 < 256 → Faultless most bs →
    bs ≡ encoding (networks bs) (after bs (ties bs))

abbrev pub EncodedReads : Type 0
EncodedReads =
    (most n : ℕ) (rel : Between) → Agreed n rel → n ≤ most →
    Faultless most (encoding n rel) × ((i j : ℕ) → after (encoding n rel) (ties (encoding n rel)) i j ≡ rel i j)

-- the answer is the relations themselves, or that there was no memory
abbrev pub Answers : Relations → Result Relations Refusal → Type 0
Answers r (Ok s) = (networks_of s ≡ networks_of r) × ((i j : ℕ) → relation_of s i j ≡ relation_of r i j)
Answers r (Err e) = e ≡ Memory

-- what is encoded reads back to the same relations
abbrev pub ReadsBack : Type 0
ReadsBack =
    (most : ℕ) (r : Relations) (answer : Result Relations Refusal) → 0 < networks_of r → networks_of r ≤ most →
    Read most (file_of r) answer → Answers r answer

-- what is read encodes to the same bytes
abbrev pub EncodesBack : Type 0
EncodesBack = (most : ℕ) (bs : List ℕ) (r : Relations) → Read most bs (Ok r) → file_of r ≡ bs
