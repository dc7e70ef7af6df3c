-- The lowest pair that has a letter. Assumes nothing.
use Rattle.std.proofs.Common.{◌≡◌, None, Option, vec_items, ℕ, zero, suc, ◌<◌, Bool, true, false, cond, ◌&&◌, ◌||◌, eqb, ltb, List, [], ◌∷◌, length, get_or, Some, sym, refl, ap, ◌∙◌, subst, ⊎_elim, arith}
use Rattle.std.specs.Ordering.{is_lt, nat_cmp, ordering_then}
use Rattle.std.specs.declared.cmp.Ordering.TheVariants.{Less, Equal, Greater}
use Rattle.std.proofs.lemmas.Bool.{and_parts, cases_Bool, eq-eqb}
use Rattle.std.proofs.lemmas.Bool.Decides.{nat_tests}
use Rattle.simulation.specs.Posting.{Oldest, blank}
use Rattle.simulation.specs.Posts.{Post, between, goes, inside, meant, posts}
use Rattle.simulation.specs.Resting.{Foremost, LowestEnds, LowestOf, lower}
use Rattle.std.specs.Option.{MatchOption}
use Rattle.relations.specs.Sound.{networks}
use Rattle.simulation.proofs.Posted.{oldest_between, oldest_ends, oldest_front}
use Rattle.simulation.proofs.Wholes.{heard_some}
use Rattle.simulation.specs.Simulated.{letter_of, state_of, world_of}
use Rattle.simulation.specs.declared.simulation.Simulation.{Simulation}
use Rattle.simulation.specs.Steps.{both}
use Rattle.simulation.specs.declared.letter.Letter.{Letter}

-- pairs are compared as the rules have it
is_lower : (f t i j : ℕ) → is_lt (ordering_then (nat_cmp f i) (nat_cmp t j)) ≡ lower f t i j
is_lower f t i j = by (ltb f i) (eqb f i) (ltb t j) (eqb t j)
  where
    by : (a b c d : Bool) → is_lt (ordering_then (cond a Less (cond b Equal Greater)) (cond c Less (cond d Equal Greater))) ≡ (a || (b && c))
    by true b c d = refl
    by false false c d = refl
    by false true true d = refl
    by false true false true = refl
    by false true false false = refl

other : (a c f t i j : ℕ) → lower a c i j ≡ true → lower f t i j ≡ false → (eqb f a && eqb t c) ≡ false
other a c f t i j h k = grind (arith, nat_tests)

-- a letter that has the ends of a pair is in flight between them
has_some : (i j : ℕ) (ls : List Letter) (k : ℕ) → k < length ls → (get_or ls k blank).from ≡ i → (get_or ls k blank).to ≡ j → 0 < length (between i j (posts ls))
has_some i j [] k l f t = absurd (omega arith)
has_some i j (l ∷ ls) zero h f t =
    let here : between i j (posts (l ∷ ls)) ≡ (meant l).what ∷ between i j (posts ls) = λ x. cond (eq-eqb l.from i f x && eq-eqb l.to j t x) ((meant l).what ∷ between i j (posts ls)) (between i j (posts ls)) in
    omega (arith, ap length here)
has_some i j (l ∷ ls) (suc k) h f t = more (goes i j (meant l)) (meant l).what _ (has_some i j ls k (omega arith) f t)
  where
    more : {X : Type 0} (b : Bool) (u : X) (us : List X) → 0 < length us → 0 < length (cond b (u ∷ us) us)
    more true u us h = omega arith
    more false u us h = h

-- where no letter has a lower pair, none is in flight between one
none_lower : (i j : ℕ) (ls : List Letter) → ((k : ℕ) → k < length ls → lower (get_or ls k blank).from (get_or ls k blank).to i j ≡ false) → (a c : ℕ) → lower a c i j ≡ true → between a c (posts ls) ≡ []
none_lower i j [] h a c below = refl
none_lower i j (l ∷ ls) h a c below = (λ x. cond (other a c l.from l.to i j below (h 0 (omega arith)) x) ((meant l).what ∷ between a c (posts ls)) (none_lower i j ls (λ k lt. h (suc k) (omega arith)) a c below x))

pub lowest_is : (ls : List Letter) (m : ℕ × ℕ) → LowestEnds ls m → LowestOf (posts ls) (Some m)
lowest_is ls m ((k, l, f, t), low) = (has_some m.0 m.1 ls k l f t, none_lower m.0 m.1 ls (λ k h. sym (is_lower (get_or ls k blank).from (get_or ls k blank).to m.0 m.1) ∙ low k h))

-- what is in flight is between networks that there are
pub ends_inside : (n i j : ℕ) (ps : List Post) → inside n ps ≡ true → 0 < length (between i j ps) → (ltb i n && ltb j n) ≡ true
ends_inside n i j [] e h = absurd (omega arith)
ends_inside n i j (p ∷ ps) e h =
    ⊎_elim
    (λ b. here p.from p.to (inside n ps) b e)
    (λ b. ends_inside n i j ps (and_parts _ _ e).1 (subst (λ t. 0 < length (cond t (p.what ∷ between i j ps) (between i j ps))) b h))
    (cases_Bool (goes i j p))
  where
    here : (f t : ℕ) (rest : Bool) → (eqb f i && eqb t j) ≡ true → ((ltb f n && ltb t n) && rest) ≡ true → (ltb i n && ltb j n) ≡ true
    here f t rest b e = grind (arith, nat_tests)

-- the oldest of the lowest pair, if it has one
pub foremost : (x : Simulation) (i j : ℕ) → LowestOf (posts (vec_items x.letters)) (Some (i, j)) → (o : Option ℕ) → MatchOption o (between i j (posts (vec_items x.letters)) ≡ []) (λ k. Oldest i j k (vec_items x.letters)) → MatchOption o (posts (vec_items x.letters) ≡ []) (Foremost x)
foremost x i j low None none = absurd (omega (arith, low.0, ap length none))
foremost x i j low (Some k) old =
    let ls = vec_items x.letters in
    let e = oldest_ends i j k ls old in
    let ends : Path (ℕ × ℕ) (i, j) ((letter_of x k).from, (letter_of x k).to) = λ z. (sym e.0 z, sym e.1 z) in
    record {
      below = subst (λ p. both (world_of x) p.0 p.1 ≡ true) ends (ends_inside (networks x.relations) i j (posts ls) x.within low.0);
      some = subst (λ p. 0 < length ((state_of x).flight p.0 p.1)) ends low.0;
      lowest = subst (λ p. LowestOf (posts ls) (Some p)) ends low;
      oldest = oldest_between i j k ls old;
    }

-- a letter that is the oldest between its ends goes from a network that there is to another
pub oldest_inside : (x : Simulation) (k : ℕ) (l : Letter) → l ≡ letter_of x k → Oldest (letter_of x k).from (letter_of x k).to k (vec_items x.letters) → both (world_of x) l.from l.to ≡ true
oldest_inside x k l is old =
    let ls = vec_items x.letters in
    let i = (letter_of x k).from in
    let j = (letter_of x k).to in
    let some : 0 < length (between i j (posts ls)) = heard_some i j k _ ls (oldest_front i j k ls old) in
    subst (λ z. both (world_of x) z.from z.to ≡ true) (sym is) (ends_inside (networks x.relations) i j (posts ls) x.within some)
