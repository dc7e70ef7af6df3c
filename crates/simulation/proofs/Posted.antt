-- What is in flight between two networks, as letters are sent, heard and lost. Assumes nothing.
use Rattle.std.proofs.Common.{Err, Result, Ok, true≢false, ◌≡◌, ℕ, subst, zero, suc, not, Some, None, Option, ◌+◌, ◌<◌, Bool, true, false, cond, ◌||◌, List, [], ◌∷◌, ◌++◌, length, get_or, take, sym, refl, ap, ◌∙◌, append_assoc, append-nil, arith}
use lib.ListN.{length-map}
use Rattle.std.specs.Option.{MatchOption}
use Rattle.std.specs.Result.{is_ok}
use Rattle.std.specs.List.{filter}
use Rattle.std.proofs.lemmas.List.{take-map, take_all, map_push, get_or-map}
use Rattle.std.proofs.lemmas.Bool.Decides.{nat_tests}
use Rattle.selection.specs.Sets.{member}
use Rattle.selection.specs.declared.set.NetworkSet.{NetworkSet}
use Rattle.advertisement.specs.Updates.{block_of, said}
use Rattle.advertisement.specs.declared.update.Update.{Update as Message}
use Rattle.model.specs.declared.fault.Fault.{Fault}
use Rattle.model.specs.Selection.{Said}
use Rattle.model.specs.Lists.{gather}
use Rattle.model.specs.Run.{Item, update}
use Rattle.simulation.specs.declared.letter.Item.TheVariants.{Update}
use Rattle.simulation.specs.declared.letter.Letter.{Letter}
use Rattle.simulation.specs.Posting.{Oldest, blank, letter_at, told_by}
use Rattle.advertisement.specs.Telling.{in_audience}
use Rattle.simulation.specs.Posts.{Post, addressed, between, cut, goes, item_of, mailing, meant, posts}
use Rattle.model.proofs.Gathered.{gather_more, gather_none}

with_tail : {X : Type 0} (b : Bool) (x : X) (ys zs : List X) → cond b (x ∷ (ys ++ zs)) (ys ++ zs) ≡ cond b (x ∷ ys) ys ++ zs
with_tail true x ys zs = refl
with_tail false x ys zs = refl

pub between_append : (i j : ℕ) (ps qs : List Post) → between i j (ps ++ qs) ≡ between i j ps ++ between i j qs
between_append i j [] qs = refl
between_append i j (p ∷ ps) qs = ap (λ l. cond (goes i j p) (p.what ∷ l) l) (between_append i j ps qs) ∙ with_tail (goes i j p) p.what (between i j ps) (between i j qs)

-- the oldest is found
same_ends : (i j : ℕ) (p : Post) → true ≡ goes i j p → p ≡ record { from = i; to = j; what = p.what }
same_ends i j p h = let e : (p.from ≡ i) × (p.to ≡ j) = grind (arith, nat_tests) in λ x. record { from = e.0 x; to = e.1 x; what = p.what }

-- at place k stands what i sent to j, and nothing before it did
pub record Front (i j k : ℕ) (u : Item) (ps : List Post) : Type 0 where
  pub there : k < length ps
  pub first : between i j (take k ps) ≡ []
  pub here : (p : Post) → get_or ps k p ≡ record { from = i; to = j; what = u }

pub oldest_front : (i j k : ℕ) (ls : List Letter) → Oldest i j k ls → Front i j k (item_of (letter_at ls k).item) (posts ls)
oldest_front i j k ls old = record {
  there = omega (arith, old.there, length-map ls meant);
  first = ap (between i j) (take-map meant k ls) ∙ old.first;
  here = λ p. get_or-map meant ls k blank p old.there ∙ same_ends i j (meant (letter_at ls k)) old.here;
}

-- the ends of the oldest from i to j
pub oldest_ends : (i j k : ℕ) (ls : List Letter) → Oldest i j k ls → ((letter_at ls k).from ≡ i) × ((letter_at ls k).to ≡ j)
oldest_ends i j k ls old = let p = same_ends i j (meant (letter_at ls k)) old.here in (ap (λ q. q.from) p, ap (λ q. q.to) p)

pub oldest_between : (i j k : ℕ) (ls : List Letter) → Oldest i j k ls → Oldest (letter_at ls k).from (letter_at ls k).to k ls
oldest_between i j k ls old = let e = oldest_ends i j k ls old in subst {A = ℕ × ℕ} (λ p. Oldest p.0 p.1 k ls) (λ z. (sym e.0 z, sym e.1 z)) old

-- nothing before the first place goes there
none_before : (i j k : ℕ) (ls : List Letter) → ((m : ℕ) → m < k → goes i j (meant (get_or ls m blank)) ≡ false) → between i j (posts (take k ls)) ≡ []
none_before i j zero ls h = refl
none_before i j (suc k) [] h = refl
none_before i j (suc k) (l ∷ ls) h = (λ x. cond (h 0 (omega arith) x) ((meant l).what ∷ between i j (posts (take k ls))) (none_before i j k ls (λ m lt. h (suc m) (omega arith)) x))

-- the first place of which the test is true, if there is one, has the oldest
module _ (i j : ℕ) (ls : List Letter) where
  abbrev pub there : ℕ → Bool
  there k = goes i j (meant (get_or ls k blank))

  pub oldest_is : (o : Option ℕ) → MatchOption o ((k : ℕ) → k < length ls → there k ≡ false) (λ p. (p < length ls) × (there p ≡ true) × ((k : ℕ) → k < p → there k ≡ false)) → MatchOption o (between i j (posts ls) ≡ []) (λ k. Oldest i j k ls)
  oldest_is None none = ap (λ t. between i j (posts t)) (sym (take_all (length ls) ls (omega arith))) ∙ none_before i j (length ls) ls none
  oldest_is (Some k) (l, here, none) = record { there = l; first = none_before i j k ls none; here = sym here }

-- one letter is kept or lost
one_kept : (b : Bool) (l : Letter) (rest : List Letter) (ps : List Post) → posts rest ≡ ps → posts (cond (not b) (l ∷ rest) rest) ≡ cond b ps (meant l ∷ ps)
one_kept true l rest ps e = e
one_kept false l rest ps e = ap (λ t. meant l ∷ t) e

pub cut_is : (i j : ℕ) (ls : List Letter) → posts (filter (λ l. not (goes i j (meant l) || goes j i (meant l))) ls) ≡ cut i j (posts ls)
cut_is i j [] = refl
cut_is i j (l ∷ ls) = one_kept (goes i j (meant l) || goes j i (meant l)) l _ _ (cut_is i j ls)

pub posted_more : (f : ℕ → List Post) (entry : List Post) (k : ℕ) (now next : List Post) → now ≡ entry ++ gather f k → next ≡ now ++ f k → next ≡ entry ++ gather f (k + 1)
posted_more f entry k now next inv step = step ∙ ap (λ l. l ++ f k) inv ∙ append_assoc entry (gather f k) (f k) ∙ ap (λ l. entry ++ l) (sym (gather_more f k))

-- one update is sent
pub sent_one : (i k block : ℕ) (whom : ℕ → Bool) (says : ℕ → Said) (u : Message) (before after : List Letter) → after ≡ before ++ record { from = i; to = k; item = Update u } ∷ [] → block_of u ≡ block → said u ≡ says k → true ≡ whom k → posts after ≡ posts before ++ addressed i block whom says k
sent_one i k block whom says u before after e here what told = ap posts e ∙ map_push meant before (record { from = i; to = k; item = Update u }) ∙ ap (λ t. posts before ++ t) (λ x. cond (told x) (record { from = i; to = k; what = update (record { block = here x; says = what x }) } ∷ []) [])

pub none_sent : (i k block : ℕ) (whom : ℕ → Bool) (says : ℕ → Said) (ps : List Post) → false ≡ whom k → ps ≡ ps ++ addressed i block whom says k
none_sent i k block whom says ps e = sym (append-nil ps) ∙ ap (λ t. ps ++ t) (λ x. cond (e x) (record { from = i; to = k; what = update (record { block = block; says = says k }) } ∷ []) [])

pub by_audience : (audiences : List NetworkSet) (b : ℕ) (a : NetworkSet) → b < length audiences → a ≡ get_or audiences b a → in_audience audiences b ≡ member a
by_audience audiences b a l e = get_or-map member audiences b a (λ k. false) l ∙ ap member (sym e)

-- nothing is sent after a refusal
pub nobody_told : (i block n : ℕ) (fault : Fault) (says : ℕ → Said) (ps : List Post) → ps ≡ ps ++ mailing i block (told_by (Err fault)) says n
nobody_told i block n fault says ps = sym (append-nil ps) ∙ ap (λ t. ps ++ t) (sym (gather_none _ n (λ k h. refl)))

-- what is sent after a link turned; nothing where that was refused
abbrev pub told_all : Result (Unit {0}) Fault → List Post → List Post
told_all (Ok _) ps = ps
told_all (Err fault) ps = []

pub all_told : (turned : Result (Unit {0}) Fault) (ps : List Post) → is_ok turned ≡ true → told_all turned ps ≡ ps
all_told (Ok _) ps h = refl
all_told (Err fault) ps h = absurd (true≢false (sym h))

pub none_told : (turned : Result (Unit {0}) Fault) (ps : List Post) → is_ok turned ≡ false → told_all turned ps ≡ []
none_told (Ok _) ps h = absurd (true≢false h)
none_told (Err fault) ps h = refl
