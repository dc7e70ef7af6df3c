-- What holds after the first k ties of a file are read. Assumes nothing.
use Rattle.std.proofs.Common.{◌≡◌, ℕ, zero, suc, ◌+◌, ◌*◌, Bool, true, false, cond, not, ◌&&◌, ◌||◌, eqb, leb, ltb, List, get_or, Some, None, MatchBool, Option, sym, refl, ap, ◌∙◌, subst, ⊎_elim, add-one, arith}
use Rattle.std.proofs.lemmas.Bool.Decides.{nat_tests, when_true}
use Rattle.std.proofs.lemmas.Bool.{cases_lt}
use Rattle.model.specs.Checks.{first_fault}
use Rattle.model.proofs.Checks.{none_holds}
use Rattle.wire.specs.Reading.{input, place}
use Rattle.wire.specs.declared.reader.Reader.{Reader}
use Rattle.model.specs.Relations.{Between, opposite, related}
use Rattle.relations.specs.Between.{with_pair}
use Rattle.relations.specs.Table.{count, rel}
use Rattle.relations.specs.declared.matrix.Matrix.{Matrix}
use Rattle.model.specs.declared.relation.Relation.{Relation}
use Rattle.model.specs.declared.relation.Relation.TheVariants.{Unrelated, Peer, Provider}
use Rattle.ties.specs.declared.tie.Tie.{Tie}
use Rattle.ties.specs.File.{networks, first, second, kind, after}
use Rattle.ties.specs.Kind.{meant}
use Rattle.ties.specs.Faults.{rises, tie_checks_at, tie_checks, same_pair, paired, comes_after, CleanTies}
use Rattle.ties.specs.Steps.{ordered, next_checks}

meant_related : (k : ℕ) → (related (meant k) ≡ true) × (related (opposite (meant k)) ≡ true)
meant_related k = elim (eqb k 1) as (λ b. (related (cond b Provider Peer) ≡ true) × (related (opposite (cond b Provider Peer)) ≡ true)) [ true ↦ (refl, refl) | false ↦ (refl, refl) ]

pair_related : (r : Between) (i j : ℕ) (x : Relation) (a b : ℕ) → related x ≡ true → related (opposite x) ≡ true → related (with_pair r i j x a b) ≡ (same_pair i j a b || related (r a b))
pair_related r i j x a b p q = grind (arith, nat_tests)

pub related_paired : (bs : List ℕ) (a b k : ℕ) → related (after bs k a b) ≡ paired bs a b k
unfolding after paired
related_paired bs a b zero = refl
related_paired bs a b (suc k) =
    let m = meant_related (kind bs k) in
    pair_related (after bs k) (first bs k) (second bs k) (meant (kind bs k)) a b m.0 m.1 ∙ ap (λ t. same_pair (first bs k) (second bs k) a b || t) (related_paired bs a b k)

pub record Sofar (bs : List ℕ) (k : ℕ) (r : Reader) (m : Matrix) (last : Option Tie) : Type 0 where
  pub source : input r ≡ bs
  pub at : place r ≡ 4 + 3 * k
  pub size : count m ≡ networks bs
  pub says : (i j : ℕ) → rel m i j ≡ after bs k i j
  pub order : (a b : ℕ) → ordered last a b ≡ comes_after bs k a b
  pub clean : CleanTies bs k

pub sofar_none : (bs : List ℕ) (r : Reader) (m : Matrix) → input r ≡ bs → place r ≡ 4 → count m ≡ networks bs → ((i j : ℕ) → rel m i j ≡ Unrelated) → Sofar bs 0 r m None
unfolding after
sofar_none bs r m e p n u = record { source = e; at = p; size = n; says = u; order = λ a b. refl; clean = λ i h. absurd (omega arith) }

module _ {bs : List ℕ} {k : ℕ} {r : Reader} {m : Matrix} {last : Option Tie} (s : Sofar bs k r m last) where
  -- what is told of the next tie by what was read is what is told of tie k by the bytes
  pub told_next : first_fault (next_checks (input r) (place r) m last) ≡ first_fault (tie_checks bs k)
  told_next =
      (λ i. first_fault (next_checks (s.source i) (s.at i) m last)) ∙
      (λ i. first_fault (tie_checks_at (s.size i) bs (4 + 3 * k) (s.order (first bs k) (second bs k) i) (related (s.says (first bs k) (second bs k) i)))) ∙
      ap (λ t. first_fault (tie_checks_at (networks bs) bs (4 + 3 * k) (comes_after bs k (first bs k) (second bs k)) t)) (related_paired bs (first bs k) (second bs k) k)

  pub sofar_more : (r' : Reader) (m' : Matrix) (t : Tie) (b : Bool) → first_fault (next_checks (input r) (place r) m last) ≡ None → input r' ≡ input r → place r' ≡ place r + 3 → t.first ≡ get_or (input r) (place r) 0 → t.second ≡ get_or (input r) (place r + 1) 0 → t.relation ≡ meant (get_or (input r) (place r + 2) 0) → count m' ≡ count m → b ≡ (ltb t.first (count m) && ltb t.second (count m) && not (eqb t.first t.second)) → MatchBool b ((i j : ℕ) → rel m' i j ≡ with_pair (rel m) t.first t.second t.relation i j) (m' ≡ m) → Sofar bs (k + 1) r' m' (Some t)
  unfolding after
  sofar_more r' m' t b none e p one other meaning n made after_it =
      let clean_here : first_fault (tie_checks bs k) ≡ None = sym told_next ∙ none in
      let first_is : t.first ≡ first bs k = one ∙ (λ i. get_or (s.source i) (s.at i) 0) in
      let second_is : t.second ≡ second bs k = other ∙ (λ i. get_or (s.source i) (s.at i + 1) 0) in
      let relation_is : t.relation ≡ meant (kind bs k) = meaning ∙ (λ i. meant (get_or (s.source i) (s.at i + 2) 0)) in
      let yes_it : b ≡ true = allowed (none_holds (tie_checks bs k) clean_here).1.1.0 (none_holds (tie_checks bs k) clean_here).1.1.1.1.1.1.0 first_is second_is in
      let pair = when_true _ _ yes_it after_it in
      let step : Sofar bs (suc k) r' m' (Some t) = record {
        source = e ∙ s.source;
        at = omega (arith, s.at);
        size = n ∙ s.size;
        says = λ i j. pair i j ∙ (λ x. with_pair (λ a c. s.says a c x) (first_is x) (second_is x) (relation_is x) i j);
        order = λ a c. λ i. rises (first_is i) (second_is i) a c;
        clean = λ i h. ⊎_elim (λ below. s.clean i below) (λ above. let same : i ≡ k = omega arith in subst (λ z. first_fault (tie_checks bs z) ≡ None) (sym same) clean_here) (cases_lt i k);
      } in
      subst (λ z. Sofar bs z r' m' (Some t)) (sym (add-one k)) step
    where
      allowed : (leb (networks bs) (first bs k) || leb (networks bs) (second bs k)) ≡ false → eqb (first bs k) (second bs k) ≡ false → t.first ≡ first bs k → t.second ≡ second bs k → b ≡ true
      allowed below other f g = let z = s.size in grind (arith, nat_tests)
