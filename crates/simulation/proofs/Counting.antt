-- How many updates are in flight: as many as there are letters. Assumes nothing.
use Rattle.std.proofs.Common.{◌≡◌, ℕ, zero, suc, ◌+◌, ◌<◌, Bool, true, false, cond, ◌&&◌, ◌||◌, eqb, ltb, List, [], ◌∷◌, ◌++◌, length, take, drop, Some, None, Option, sym, refl, ap, ◌∙◌, arith}
use lib.Seq.{drop-nil}
use Rattle.std.specs.List.{filter}
use Rattle.std.proofs.lemmas.Bool.{and_parts, ltb-true}
use Rattle.std.proofs.lemmas.Bool.Decides.{nat_tests}
use Rattle.model.specs.Hearing.{unless}
use Rattle.model.specs.Local.{Local, outbox, sends, tells_now}
use Rattle.model.specs.Lists.{gather}
use Rattle.model.specs.Run.{Item, update}
use Rattle.model.specs.World.{World}
use Rattle.model.specs.declared.fault.Fault.{Fault}
use Rattle.model.specs.Measure.{sum}
use Rattle.convergence.proofs.Sums.{sum_add, sum_none, sum_place, sum_same}
use Rattle.simulation.specs.Posting.{is_update}
use Rattle.simulation.specs.Posts.{Post, between, cut, flying, goes, inside, mail}
use Rattle.simulation.specs.Steps.{updates_in}
use Rattle.simulation.proofs.Mailed.{mail_outbox}

one_more : {X : Type 0} (b : Bool) (x : X) (xs : List X) → length (cond b (x ∷ xs) xs) ≡ cond b 1 0 + length xs
one_more true x xs = omega arith
one_more false x xs = omega arith

-- one item more, if it goes there
one_in : (b : Bool) (x : Item) (xs : List Item) → updates_in (cond b (x ∷ xs) xs) ≡ cond b (cond (is_update x) 1 0) 0 + updates_in xs
one_in true x xs = one_more (is_update x) x (filter is_update xs)
one_in false x xs = omega arith

turned_test : (a b c d : ℕ) → (eqb a b && eqb c d) ≡ (eqb b a && eqb d c)
turned_test a b c d = grind (arith, nat_tests)

-- as many updates are in flight between all networks as were sent and are not heard yet
pub counted : (n : ℕ) (ps : List Post) → inside n ps ≡ true → sum n (λ i. sum n (λ j. updates_in (flying ps i j))) ≡ length (filter (λ p. is_update p.what) ps)
counted n [] h = sum_same n _ _ (λ i l. sum_none n) ∙ sum_none n
counted n (p ∷ ps) h =
    let parts = and_parts (ltb p.from n && ltb p.to n) (inside n ps) h in
    let ends = and_parts (ltb p.from n) (ltb p.to n) parts.0 in
    sum_same n _ _ (λ i l. sum_same n _ _ (λ j m. one_in (goes i j p) p.what (between i j ps) ∙ (λ x. cond (turned_test p.from i p.to j x) (cond (is_update p.what) 1 0) 0 + updates_in (between i j ps))) ∙ sum_add n _ _) ∙
    sum_add n _ _ ∙
    (λ x. sum_place n p.from p.to (cond (is_update p.what) 1 0) (ltb-true p.from n ends.0) (ltb-true p.to n ends.1) x + counted n ps parts.1 x) ∙
    sym (one_more (is_update p.what) p (filter (λ q. is_update q.what) ps))

-- every sender and hearer is there, after each step
pub inside_append : (n : ℕ) (ps qs : List Post) → inside n ps ≡ true → inside n qs ≡ true → inside n (ps ++ qs) ≡ true
inside_append n [] qs h k = k
inside_append n (p ∷ ps) qs h k = let parts = and_parts (ltb p.from n && ltb p.to n) (inside n ps) h in (λ x. parts.0 x && inside_append n ps qs parts.1 k x)

pub inside_parts : (n : ℕ) (ps qs : List Post) → inside n (ps ++ qs) ≡ true → (inside n ps ≡ true) × (inside n qs ≡ true)
inside_parts n [] qs h = (refl, h)
inside_parts n (p ∷ ps) qs h =
    let parts = and_parts (ltb p.from n && ltb p.to n) (inside n (ps ++ qs)) h in
    let rest = inside_parts n ps qs parts.1 in
    ((λ x. parts.0 x && rest.0 x), rest.1)

pub inside_cut : (n i j : ℕ) (ps : List Post) → inside n ps ≡ true → inside n (cut i j ps) ≡ true
inside_cut n i j [] h = refl
inside_cut n i j (p ∷ ps) h = let parts = and_parts (ltb p.from n && ltb p.to n) (inside n ps) h in stays (goes i j p || goes j i p) parts.0 (inside_cut n i j ps parts.1)
  where
    stays : (b : Bool) → (ltb p.from n && ltb p.to n) ≡ true → inside n (cut i j ps) ≡ true → inside n (cond b (cut i j ps) (p ∷ cut i j ps)) ≡ true
    stays true e f = f
    stays false e f = λ x. e x && f x

pub inside_without : (n k : ℕ) (ps : List Post) → inside n ps ≡ true → inside n (take k ps ++ drop (k + 1) ps) ≡ true
inside_without n zero [] h = refl
inside_without n zero (p ∷ ps) h = (and_parts (ltb p.from n && ltb p.to n) (inside n ps) h).1
inside_without n (suc k) [] h = ap (inside n) (drop-nil (suc k + 1))
inside_without n (suc k) (p ∷ ps) h =
    let e : suc k + 1 ≡ suc (k + 1) = omega arith in
    let parts = and_parts (ltb p.from n && ltb p.to n) (inside n ps) h in
    ap (λ m. inside n (p ∷ take k ps ++ drop m (p ∷ ps))) e ∙ (λ x. parts.0 x && inside_without n k ps parts.1 x)

inside_gather : (n : ℕ) (g : ℕ → List Post) (m : ℕ) → ((k : ℕ) → k < m → inside n (g k) ≡ true) → inside n (gather g m) ≡ true
inside_gather n g zero h = refl
inside_gather n g (suc m) h = inside_append n (gather g m) (g m) (inside_gather n g m (λ k l. h k (omega arith))) (h m (omega arith))

inside_one : (n i k : ℕ) (s : Bool) (p : Post) → p.from ≡ i → p.to ≡ k → i < n → k < n → inside n (cond s (p ∷ []) []) ≡ true
inside_one n i k true p e f l m = grind (arith, nat_tests)
inside_one n i k false p e f l m = refl

pub inside_mail : (w : World) (i : ℕ) (these : ℕ → Bool) (s : Local) (f : Option Fault) → i < w.n → inside w.n (mail i (unless f [] (outbox w i these s))) ≡ true
inside_mail w i these s (Some fault) l = refl
inside_mail w i these s None l = ap (inside w.n) (mail_outbox w i these s) ∙ inside_gather w.n _ w.blocks (λ b h. inside_gather w.n _ w.n (λ k m. inside_one w.n i k (sends w i these s b k) (record { from = i; to = k; what = update (record { block = b; says = tells_now w i s b k }) }) refl refl l m))
