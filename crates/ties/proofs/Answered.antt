-- What is read is accepted where no thing has a fault and there is no cycle. Assumes nothing.
use Rattle.std.proofs.Common.{◌≡◌, ℕ, ◌<◌, List, get_or, sym, ap, ◌∙◌, subst, Ok, Err, Result, vec_items}
use Rattle.std.specs.Result.{IsErrAnd}
use Rattle.model.specs.Cycles.{First}
use Rattle.relations.specs.Sound.{networks as networks_of, relation as relation_of}
use Rattle.relations.specs.Table.{count, rel}
use Rattle.relations.specs.declared.matrix.Matrix.{Matrix}
use Rattle.relations.specs.declared.sound.Relations.{Relations}
use Rattle.ties.specs.File.{networks, ties, after}
use Rattle.ties.specs.Faults.{Faultless}
use Rattle.ties.specs.Encoding.{encoding}
use Rattle.cycles.specs.Checked.{Told}
use Rattle.cycles.specs.declared.check.Unsound.{Unsound}
use Rattle.cycles.specs.declared.check.Unsound.TheVariants.{Cycle, Memory}
use Rattle.ties.specs.Unsound.{refusal_of}
use Rattle.ties.specs.declared.refusal.Refusal.{Refusal}
use Rattle.ties.specs.Outcome.{Accepted, Read, Refused}
use Rattle.ties.proofs.Decoded.{read_encodes}

pub accepted : (most : ℕ) (bs : List ℕ) (m : Matrix) (r : Relations) → get_or bs 3 0 < 256 → Faultless most bs → count m ≡ networks bs → ((i j : ℕ) → rel m i j ≡ after bs (ties bs) i j) → r.matrix ≡ m → Accepted most bs r
accepted most bs m r low none size says is =
    let number : networks_of r ≡ networks bs = ap count is ∙ size in
    let same : (i j : ℕ) → relation_of r i j ≡ after bs (ties bs) i j = λ i j. ap (λ x. rel x i j) is ∙ says i j in
    record {
      faultless = none;
      count = number;
      says = same;
      encodes = read_encodes most bs low none ∙ (λ k. encoding (sym number k) (λ i j. sym (same i j) k));
    }

-- the cycle of the table is that of the bytes
refusal : (most : ℕ) (bs : List ℕ) (m : Matrix) (e : Unsound) → Faultless most bs → ((i j : ℕ) → rel m i j ≡ after bs (ties bs) i j) → Told m e → Refused most bs (refusal_of e)
refusal most bs m (Cycle ring) none says first = (none, subst (λ f. First f (vec_items ring)) (λ k i j. says i j k) first)
refusal most bs m Memory none says first = tt

pub refused : (most : ℕ) (bs : List ℕ) (m : Matrix) (e : Unsound) (r : Result Relations Refusal) → IsErrAnd r (λ x. x ≡ refusal_of e) → Faultless most bs → ((i j : ℕ) → rel m i j ≡ after bs (ties bs) i j) → Told m e → Read most bs r
refused most bs m e (Ok r) gives none says told = absurd gives
refused most bs m e (Err x) gives none says told = subst (λ y. Refused most bs y) (sym gives) (refusal most bs m e none says told)
