-- What a write to the table of relations leaves. Assumes nothing.
use Rattle.std.proofs.Common.{◌≡◌, ℕ, ◌<◌, cond, ◌&&◌, eqb, List, [], length, get_or, set, replicate, sym, refl, ap, ◌∙◌, ⊎_elim, arith, length-set}
use lib.ListN.{length-replicate}
use Rattle.std.proofs.lemmas.List.{get_or-set_same, get_or-set_other, get_or-replicate, get_or_past, get_or_default}
use Rattle.std.proofs.lemmas.Bool.{cases_eq, cases_lt, cond-true, cond-false, eq-eqb, ne_eqb}
use Rattle.std.proofs.lemmas.Bool.Decides.{nat_tests}
use Rattle.model.specs.Relations.{Between, Mutual, Apart, Within, opposite}
use Rattle.relations.specs.Between.{Wide, between, with_pair}
use Rattle.relations.specs.Table.{count, rel}
use Rattle.relations.specs.declared.matrix.Matrix.{Matrix}
use Rattle.model.specs.declared.relation.Relation.{Relation}
use Rattle.model.specs.declared.relation.Relation.TheVariants.{Unrelated, Customer, Peer, Provider}

pub get_or_set : {X : Type 0} (l : List X) (p q : ℕ) (v d : X) → p < length l → get_or (set l p v) q d ≡ cond (eqb q p) v (get_or l q d)
get_or_set l p q v d h =
    ⊎_elim
    (λ e. ap (λ k. get_or (set l p v) k d) e ∙ get_or-set_same l p v d h ∙ sym (cond-true (eqb q p) v (get_or l q d) (eq-eqb q p e)))
    (λ n. get_or-set_other l p q v d n ∙ sym (cond-false (eqb q p) v (get_or l q d) (ne_eqb q p n)))
    (cases_eq q p)

pub get_or_same : {X : Type 0} (k i : ℕ) (x : X) → get_or (replicate k x) i x ≡ x
get_or_same k i x = ⊎_elim (λ h. get_or-replicate k i x x h) (λ h. get_or_past (replicate k x) i x (simp length-replicate h)) (cases_lt i k)

pub between_none : (k m i j : ℕ) → between (replicate k (replicate m Unrelated)) i j ≡ Unrelated
between_none k m i j =
    ⊎_elim
    (λ h. ap (λ row. get_or row j Unrelated) (get_or-replicate k i (replicate m Unrelated) [] h) ∙ get_or_same m j Unrelated)
    (λ h. ap (λ row. get_or row j Unrelated) (get_or_past (replicate k (replicate m Unrelated)) i [] (simp length-replicate h)))
    (cases_lt i k)

opposite_opposite : (x : Relation) → opposite (opposite x) ≡ x
opposite_opposite Unrelated = refl
opposite_opposite Customer = refl
opposite_opposite Peer = refl
opposite_opposite Provider = refl

-- the table after one place of one row was written
written : (rows : List (List Relation)) (i j : ℕ) (row : List Relation) (x : Relation) → row ≡ get_or rows i row → i < length rows → j < length row → (a b : ℕ) → between (set rows i (set row j x)) a b ≡ cond (eqb a i && eqb b j) x (between rows a b)
written rows i j row x at hi hj a b =
    let here : row ≡ get_or rows i [] = at ∙ get_or_default rows i row [] hi in
    let e = get_or_set rows i a (set row j x) [] hi in
    let f = get_or_set row j b x Unrelated hj in
    grind (arith, nat_tests, e, f, here)

pub pair_mutual : (rel : Between) (a b : ℕ) (x : Relation) → (a ≡ b → ⊥) → Mutual rel → Mutual (with_pair rel a b x)
pair_mutual rel a b x ne m i j = let o = opposite_opposite x in let e = m i j in grind (arith, nat_tests)

pub pair_apart : (rel : Between) (a b : ℕ) (x : Relation) → (a ≡ b → ⊥) → Apart rel → Apart (with_pair rel a b x)
pair_apart rel a b x ne m i = let e = m i in grind (arith, nat_tests)

wide_set : (rows : List (List Relation)) (i : ℕ) (row : List Relation) → length row ≡ 64 → i < length rows → Wide rows → Wide (set rows i row)
wide_set rows i row long hi wide k h =
    let e = get_or_set rows i k row [] hi in
    let l : length (set rows i row) ≡ length rows = simp length-set in
    let f : length (get_or rows k []) ≡ 64 = wide k (omega arith) in
    grind (arith, nat_tests, e, f, long)

-- a table with no relation in it keeps the promises of its type
pub none_hold : (rows : List (List Relation)) (n : ℕ) → rows ≡ replicate n (replicate 64 Unrelated) → Wide rows × Mutual (between rows) × Apart (between rows)
none_hold rows n e =
    let at : (i j : ℕ) → between rows i j ≡ Unrelated = λ i j. ap (λ l. between l i j) e ∙ between_none n 64 i j in
    let wide : Wide rows = λ i h. ap (λ l. length (get_or l i [])) e ∙ ap length (get_or-replicate n i (replicate 64 Unrelated) [] (let l : length (replicate n (replicate 64 Unrelated)) ≡ n = simp length-replicate in let m : length rows ≡ n = ap length e ∙ l in omega arith)) ∙ simp length-replicate in
    (wide, λ i j. at j i ∙ ap opposite (sym (at i j)), λ i. at i i)

-- only networks that have a row are related
pub within : (m : Matrix) → Within (count m) (rel m)
within m i j h = ap (λ row. get_or row j Unrelated) (get_or_past m.rows.items i [] (let l = m.rows.ok.0 in omega arith))

-- a table after the two ends of a pair were written: it is as `with_pair` says, and keeps the promises of its type
pub record Paired (m : Matrix) (a b : ℕ) (x : Relation) (new : List (List Relation)) : Type 0 where
  pub says : (i j : ℕ) → between new i j ≡ with_pair (rel m) a b x i j
  pub wide : Wide new
  pub «mutual» : Mutual (between new)
  pub apart : Apart (between new)

pub pair_hold : (m : Matrix) (a b : ℕ) (x y : Relation) (u v : List Relation) → a < count m → b < count m → (a ≡ b → ⊥) → y ≡ opposite x → u ≡ get_or m.rows.items a u → v ≡ get_or (set m.rows.items a (set u b x)) b v → Paired m a b x (set (set m.rows.items a (set u b x)) b (set v a y))
pair_hold m a b x y u v ha hb ne is hu hv =
    let rows = m.rows.items in
    let few = m.few in
    let wide = m.wide in
    let long : length rows ≡ count m = sym m.rows.ok.0 in
    let la : length u ≡ 64 = ap length (hu ∙ get_or_default rows a u [] (omega arith)) ∙ wide a (omega arith) in
    let la' : length (set u b x) ≡ 64 = (simp length-set) ∙ la in
    let l1 : length (set rows a (set u b x)) ≡ count m = (simp length-set) ∙ long in
    let w1 : Wide (set rows a (set u b x)) = wide_set rows a (set u b x) la' (omega arith) wide in
    let lb : length v ≡ 64 = ap length (hv ∙ get_or_default (set rows a (set u b x)) b v [] (omega arith)) ∙ w1 b (omega arith) in
    let lb' : length (set v a y) ≡ 64 = (simp length-set) ∙ lb in
    let w2 : Wide (set (set rows a (set u b x)) b (set v a y)) = wide_set (set rows a (set u b x)) b (set v a y) lb' (omega arith) w1 in
    let at : (i j : ℕ) → between (set (set rows a (set u b x)) b (set v a y)) i j ≡ with_pair (between rows) a b x i j = λ i j.
    (let e = written rows a b u x hu (omega arith) (omega arith) i j in
    let f = written (set rows a (set u b x)) b a v y hv (omega arith) (omega arith) i j in
    grind (arith, nat_tests, e, f, is)) in
    record {
      says = at;
      wide = w2;
      «mutual» = λ i j. at j i ∙ pair_mutual (rel m) a b x ne m.«mutual» i j ∙ ap opposite (sym (at i j));
      apart = λ i. at i i ∙ pair_apart (rel m) a b x ne m.apart i;
    }
