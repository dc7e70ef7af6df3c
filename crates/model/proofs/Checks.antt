-- Of checks whose numbers never fall, the first that holds has the lowest number. Assumes nothing.
use Rattle.std.proofs.Common.{◌≡◌, ℕ, ◌≤◌, true, false, leb, [], ◌∷◌, ◌++◌, Some, None, sym, refl, subst, ⊎_elim, inl, inr, arith}
use Rattle.std.proofs.lemmas.Bool.{and_parts, both_ways, leb-true}
use Rattle.std.specs.List.{AllByRecursion}
use Rattle.std.proofs.lemmas.Option.{none-some}
use Rattle.model.specs.Checks.{Checks, first_fault, ascends_from, Has, IsLowest}

-- no fault that the thing has is below where the numbers begin
pub least_first : {F : Type 0} (number : F → ℕ) (least : ℕ) (checks : Checks F) → ascends_from number least checks ≡ true → (g : F) → Has checks g → least ≤ number g
least_first number least [] up g h = absurd h
least_first number least (check ∷ later) up g h =
    let both = and_parts (leb least (number check.0)) (ascends_from number (number check.0) later) up in
    let here : least ≤ number check.0 = leb-true least (number check.0) both.0 in
    ⊎_elim
    (λ e. subst (λ f. least ≤ number f) e.0 here)
    (λ there. let after = least_first number (number check.0) later both.1 g there in omega arith)
    h

pub first_is_lowest : {F : Type 0} (number : F → ℕ) (least : ℕ) (checks : Checks F) → ascends_from number least checks ≡ true → IsLowest number checks (first_fault checks)
first_is_lowest number least [] up = record { holds = λ f e. cc; lowest = λ f g e h. absurd h; none = λ e g h. h }
first_is_lowest number least ((fault, true) ∷ later) up =
    let both = and_parts (leb least (number fault)) (ascends_from number (number fault) later) up in
    record {
      holds = λ f e. inl (cc, refl);
      lowest = λ f g e h. let same : fault ≡ f = cc in subst (λ x. number x ≤ number g) same (⊎_elim (λ x. subst (λ y. number fault ≤ number y) x.0 (omega arith)) (λ there. least_first number (number fault) later both.1 g there) h);
      none = λ e g h. cc;
    }
first_is_lowest number least ((fault, false) ∷ later) up =
    let both = and_parts (leb least (number fault)) (ascends_from number (number fault) later) up in
    let rest = first_is_lowest number (number fault) later both.1 in
    record {
      holds = λ f e. inr (rest.holds f e);
      lowest = λ f g e h. ⊎_elim (λ x. absurd (both_ways false refl x.1)) (λ there. rest.lowest f g e there) h;
      none = λ e g h. ⊎_elim (λ x. absurd (both_ways false refl x.1)) (λ there. rest.none e g there) h;
    }

-- where none is told none holds, and the other way round
pub none_holds : {F : Type 0} (checks : Checks F) → first_fault checks ≡ None → AllByRecursion (λ c. c.1 ≡ false) checks
none_holds [] e = tt
none_holds ((fault, true) ∷ later) e = absurd (none-some fault (sym e))
none_holds ((fault, false) ∷ later) e = (refl, none_holds later e)

pub none_told : {F : Type 0} (checks : Checks F) → AllByRecursion (λ c. c.1 ≡ false) checks → first_fault checks ≡ None
none_told [] h = refl
none_told ((fault, true) ∷ later) h = absurd (both_ways true h.0 refl)
none_told ((fault, false) ∷ later) h = none_told later h.1

-- of checks one after the other: the first ones decide, or where none of these holds the others
pub first_of_first : {F : Type 0} (xs ys : Checks F) (f : F) → first_fault xs ≡ Some f → first_fault (xs ++ ys) ≡ Some f
first_of_first [] ys f e = absurd (none-some f e)
first_of_first ((fault, true) ∷ xs) ys f e = e
first_of_first ((fault, false) ∷ xs) ys f e = first_of_first xs ys f e

pub first_of_second : {F : Type 0} (xs ys : Checks F) → first_fault xs ≡ None → first_fault (xs ++ ys) ≡ first_fault ys
first_of_second [] ys e = refl
first_of_second ((fault, true) ∷ xs) ys e = absurd (none-some fault (sym e))
first_of_second ((fault, false) ∷ xs) ys e = first_of_second xs ys e
