-- A value put at one place, and the queues between networks, case by case. Assumes nothing.
use Rattle.std.proofs.Common.{◌≡◌, ℕ, Bool, true, false, cond, ◌&&◌, ◌||◌, eqb, List, [], ◌++◌, sym, refl, ap, ◌∙◌, subst, ⊎_elim, arith}
use Rattle.std.proofs.lemmas.Bool.{and_from, and_parts, cases_Bool, cond_both, cond-true, cond-false, eq-eqb, ne_eqb, eqb-true, eqb-false}
use Rattle.std.proofs.lemmas.Bool.Decides.{nat_tests}
use Rattle.model.specs.Local.{at}
use Rattle.model.specs.Run.{Item}
use Rattle.model.specs.Steps.{appended, queued}

pub at_cases : {X : Type 0} (P : X → Type 0) (i : ℕ) (x : X) (f : ℕ → X) (a : ℕ) → (a ≡ i → P x) → ((a ≡ i → ⊥) → P (f a)) → P (at i x f a)
at_cases P i x f a here there = cond_both (eqb a i) x (f a) P (λ e. here (eqb-true a i e)) (λ e. there (eqb-false a i e))

pub at_same : {X : Type 0} (i : ℕ) (x : X) (f : ℕ → X) → at i x f i ≡ x
at_same i x f = cond-true (eqb i i) x (f i) (eq-eqb i i refl)

pub at_other : {X : Type 0} (i : ℕ) (x : X) (f : ℕ → X) (a : ℕ) → (a ≡ i → ⊥) → at i x f a ≡ f a
at_other i x f a ne = cond-false (eqb a i) x (f a) (ne_eqb a i ne)

-- the later value stands
pub at_twice : {X : Type 0} (i : ℕ) (x y : X) (f : ℕ → X) (a : ℕ) → at i x (at i y f) a ≡ at i x f a
at_twice i x y f a = both (eqb a i)
  where
    both : (t : Bool) → cond t x (cond t y (f a)) ≡ cond t x (f a)
    both true = refl
    both false = refl

-- of two places each has its later value
pub at_swap : {X : Type 0} (i j : ℕ) → (i ≡ j → ⊥) → (x v y u : X) (f : ℕ → X) (a : ℕ) → at j y (at i x (at i v (at j u f))) a ≡ at i x (at j y f) a
at_swap i j ne x v y u f a = both (eqb a i) (eqb a j) (λ e g. ne (sym (eqb-true a i e) ∙ eqb-true a j g))
  where
    both : (t r : Bool) → (t ≡ true → r ≡ true → ⊥) → cond r y (cond t x (cond t v (cond r u (f a)))) ≡ cond t x (cond r y (f a))
    both true true n = absurd (n refl refl)
    both true false n = refl
    both false true n = refl
    both false false n = refl

-- what stands there already
pub at_own : {X : Type 0} (i : ℕ) (f : ℕ → X) (a : ℕ) → at i (f i) f a ≡ f a
at_own i f a = at_cases (λ x. x ≡ f a) i (f i) f a (λ e. ap f (sym e)) (λ _. refl)

pub queued_cases : (P : List Item → Type 0) (i j : ℕ) (items : List Item) (flight : ℕ → ℕ → List Item) (a k : ℕ) → (a ≡ i → k ≡ j → P items) → ((a ≡ i → k ≡ j → ⊥) → P (flight a k)) → P (queued i j items flight a k)
queued_cases P i j items flight a k here there =
    at_cases (λ row. P (row k)) i (at j items (flight i)) flight a
    (λ e. at_cases P j items (flight i) k (here e) (λ ne. let same : flight i k ≡ flight a k = (λ x. flight (sym e x) k) in subst P (sym same) (there (λ _ f. ne f))))
    (λ ne. there (λ e _. ne e))

pub appended_cases : (P : List Item → Type 0) (i : ℕ) (more : ℕ → List Item) (flight : ℕ → ℕ → List Item) (a k : ℕ) → (a ≡ i → P (flight a k ++ more k)) → ((a ≡ i → ⊥) → P (flight a k)) → P (appended i more flight a k)
appended_cases P i more flight a k here there = cond_both (eqb a i) (flight a k ++ more k) (flight a k) P (λ e. here (eqb-true a i e)) (λ e. there (eqb-false a i e))

-- the two channels of the link between i and j
abbrev pub crosses : ℕ → ℕ → ℕ → ℕ → Bool
crosses i j a k = (eqb a i && eqb k j) || (eqb a j && eqb k i)

pub crosses_back : (i j a k : ℕ) → crosses i j a k ≡ crosses i j k a
crosses_back i j a k = grind (arith, nat_tests)

-- the test of a place
pub at_place : (i j a k : ℕ) → a ≡ i → k ≡ j → (eqb a i && eqb k j) ≡ true
at_place i j a k e f = and_from _ _ (eq-eqb a i e) (eq-eqb k j f)

pub off_place : (i j a k : ℕ) → (a ≡ i → k ≡ j → ⊥) → (eqb a i && eqb k j) ≡ false
off_place i j a k ne =
    ⊎_elim
    (λ e. let p = and_parts (eqb a i) (eqb k j) e in absurd (ne (eqb-true a i p.0) (eqb-true k j p.1)))
    (λ e. e)
    (cases_Bool (eqb a i && eqb k j))

pub queued_is : (i j : ℕ) (items : List Item) (flight : ℕ → ℕ → List Item) (a k : ℕ) → queued i j items flight a k ≡ cond (eqb a i && eqb k j) items (flight a k)
queued_is i j items flight a k =
    queued_cases (λ xs. xs ≡ cond (eqb a i && eqb k j) items (flight a k)) i j items flight a k
    (λ e f. sym (cond-true _ items (flight a k) (at_place i j a k e f)))
    (λ ne. sym (cond-false _ items (flight a k) (off_place i j a k ne)))

pub emptied : (i j : ℕ) (flight : ℕ → ℕ → List Item) (a k : ℕ) → queued i j [] (queued j i [] flight) a k ≡ cond (crosses i j a k) [] (flight a k)
emptied i j flight a k =
    queued_is i j [] (queued j i [] flight) a k ∙
    ap (cond (eqb a i && eqb k j) []) (queued_is j i [] flight a k) ∙
    either (eqb a i && eqb k j) (eqb a j && eqb k i)
  where
    either : (p q : Bool) → cond p [] (cond q [] (flight a k)) ≡ cond (p || q) [] (flight a k)
    either true q = refl
    either false q = refl
