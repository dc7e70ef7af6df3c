-- What is told of a line has the lowest number of what is wrong with it. Assumes nothing.
use Rattle.std.proofs.Common.{◌≡◌, ℕ, ◌+◌, Bool, true, false, cond, List, [], ◌∷◌, Some, None, Ok, Err, Option, Result, sym, refl, ap, subst, arith}
use Rattle.model.specs.Checks.{Checks, IsLowest, ascends_from, first_fault}
use Rattle.model.proofs.Checks.{first_is_lowest}
use Rattle.script.specs.declared.cause.Cause.{Cause}
use Rattle.script.specs.declared.command.Limits.{Limits}
use Rattle.script.specs.Faults.{Verb, hear, line_checks, named_checks, rest, send, show, turn, turn_checks, unknown, verb, words_checks}
use Rattle.script.specs.Lowest.{Clear, Lowest, LowestIn, told}
use Rattle.script.specs.Meaning.{judged, meaning, read_line}
use Rattle.script.specs.Next.{Ahead, Reader, ahead_by, ahead_in, reached}
use Rattle.script.specs.Number.{number}
use Rattle.script.specs.Parts.{Line, content, lines, words}
use Rattle.script.specs.Turns.{is_turn, meant, read_turn_line, turn_line_checks, turns_checks}

-- the numbers of a line's checks never fall
named_ascends : (limits : Limits) (o : Option Verb) (ws : List (List ℕ)) → ascends_from number 1 (named_checks limits o ws) ≡ true
named_ascends limits None ws = refl
named_ascends limits (Some turn) ws = refl
named_ascends limits (Some hear) ws = refl
named_ascends limits (Some send) ws = refl
named_ascends limits (Some show) ws = refl
named_ascends limits (Some rest) ws = refl

words_ascend : (limits : Limits) (ws : List (List ℕ)) → ascends_from number 1 (words_checks limits ws) ≡ true
words_ascend limits [] = refl
words_ascend limits (w ∷ ws) = named_ascends limits (verb w) ws

turn_ascends : (n : ℕ) (t : Bool) (ws : List (List ℕ)) → ascends_from number 1 (cond t (turn_checks n ws) unknown) ≡ true
turn_ascends n true ws = refl
turn_ascends n false ws = refl

turns_ascend : (n : ℕ) (ws : List (List ℕ)) → ascends_from number 1 (turns_checks n ws) ≡ true
turns_ascend n [] = refl
turns_ascend n (w ∷ ws) = turn_ascends n (is_turn w) ws

told_judged : {X : Type 0} (o : Option Cause) (x : Option X) → told (judged o x) ≡ o
told_judged None x = refl
told_judged (Some c) x = refl

judged_lowest : {X : Type 0} (checks : Checks Cause) (x : Option X) → ascends_from number 0 checks ≡ true → IsLowest number checks (told (judged (first_fault checks) x))
judged_lowest checks x up = subst (IsLowest number checks) (sym (told_judged (first_fault checks) x)) (first_is_lowest number 0 checks up)

pub line_lowest : (limits : Limits) (l : List ℕ) → IsLowest number (line_checks limits l) (told (read_line limits l))
line_lowest limits l = judged_lowest (line_checks limits l) (meaning (words (content l))) (words_ascend limits (words (content l)))

pub turn_line_lowest : (n : ℕ) (l : List ℕ) → IsLowest number (turn_line_checks n l) (told (read_turn_line n l))
turn_line_lowest n l = judged_lowest (turn_line_checks n l) (meant (words (content l))) (turns_ascend n (words (content l)))

pub turn_line_told : (n : ℕ) (l : List ℕ) → told (read_turn_line n l) ≡ first_fault (turn_line_checks n l)
turn_line_told n l = told_judged (first_fault (turn_line_checks n l)) (meant (words (content l)))

module _ {F : Type 0} (number : F → ℕ) (checks : List ℕ → Checks F) (k : ℕ) (l : Line) (ls : List Line) (told : Option F) where
  pub one_more : (line : ℕ) → Clear number checks l → Lowest number checks (k + 1) ls line told → Lowest number checks k (l ∷ ls) line told
  one_more line none h = record {
    passed = l ∷ h.passed;
    at = h.at;
    later = h.later;
    split = ap (λ m. l ∷ m) h.split;
    counted = omega (arith, h.counted);
    clear = (none, h.clear);
    lowest = h.lowest;
  }

  pub first_of : IsLowest number (checks l.text) told → Lowest number checks k (l ∷ ls) (k + 1) told
  first_of h = record { passed = []; at = l; later = ls; split = refl; counted = omega arith; clear = tt; lowest = h }

module _ {T : Type 0} (reads : Reader T) (checks : List ℕ → Checks Cause) (each : (l : List ℕ) → IsLowest number (checks l) (told (reads l))) where
  passed_over : (k : ℕ) (l : Line) (ls : List Line) (line : ℕ) (r : Result (Option T) Cause) → Clear number checks l → LowestIn checks (k + 1) ls line r → LowestIn checks k (l ∷ ls) line r
  passed_over k l ls line (Ok None) none h = (none, h)
  passed_over k l ls line (Ok (Some x)) none h = one_more number checks k l ls None line none h
  passed_over k l ls line (Err c) none h = one_more number checks k l ls (Some c) line none h

  one_read : (k : ℕ) (l : Line) (ls : List Line) (r : Result (Option T) Cause) (a : Ahead T) → IsLowest number (checks l.text) (told r) → LowestIn checks (k + 1) ls a.line a.answer → LowestIn checks k (l ∷ ls) (reached r (k + 1) l.after a).line (reached r (k + 1) l.after a).answer
  one_read k l ls (Ok None) a here h = passed_over k l ls a.line a.answer here h
  one_read k l ls (Ok (Some x)) a here h = first_of number checks k l ls None here
  one_read k l ls (Err c) a here h = first_of number checks k l ls (Some c) here

  lowest_in : (k : ℕ) (ls : List Line) → LowestIn checks k ls (ahead_in reads k ls).line (ahead_in reads k ls).answer
  unfolding ahead_in
  lowest_in k [] = tt
  lowest_in k (l ∷ ls) = one_read k l ls (reads l.text) (ahead_in reads (k + 1) ls) (each l.text) (lowest_in (k + 1) ls)

  -- of what is known to come next
  pub lowest_next : (k : ℕ) (bs : List ℕ) (a : Ahead T) → ahead_by reads k bs ≡ a → LowestIn checks k (lines bs) a.line a.answer
  lowest_next k bs a e = subst (λ b. LowestIn checks k (lines bs) b.line b.answer) e (lowest_in k (lines bs))
