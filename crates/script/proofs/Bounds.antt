-- The numbers of a command that is read are within the limits. Assumes nothing.
use Rattle.std.proofs.Common.{◌≡◌, ℕ, ◌+◌, ◌<◌, Bool, true, false, cond, List, [], ◌∷◌, is_none, is_some, Some, None, slice_get, Ok, Err, Option, Result, unwrap_or, refl, subst, arith}
use Rattle.std.specs.Option.{option_map}
use Rattle.std.proofs.lemmas.Bool.{leb-false, or_parts, both_ways}
use Rattle.script.specs.declared.cause.Cause.{Cause}
use Rattle.model.specs.Checks.{first_fault}
use Rattle.model.proofs.Checks.{none_holds}
use Rattle.script.specs.declared.cause.Cause.TheVariants.{BadByte, UnknownWord, MissingWord, SurplusWord}
use Rattle.script.specs.declared.command.Command.{Command}
use Rattle.script.specs.declared.command.Limits.{Limits}
use Rattle.script.specs.declared.command.Turn.{Turn}
use Rattle.script.specs.Digits.{value}
use Rattle.script.specs.Faults.{Verb, hear, line_checks, named_checks, pair_checks, reaches, rest, send, show, turn, turn_checks, unknown, verb, verb_checks, words_checks}
use Rattle.script.specs.Meaning.{asked, judged, meaning, number_at, read_line}
use Rattle.script.specs.Next.{Ahead, Bounded, Reader, ahead_in, reached}
use Rattle.script.specs.Parts.{Line, content, words}
use Rattle.script.specs.Turns.{TurnBounded, asked as asked_turn, is_turn, meant, read_turn_line, turn_line_checks, turns_checks}
use Rattle.script.specs.Written.{Within}
use Rattle.script.proofs.Addressed.{address_fits}

pub first_none : (t : Bool) (c : Cause) (o : Option Cause) → cond t (Some c) o ≡ None → (t ≡ false) × (o ≡ None)
first_none true c o e = let z : ◌≡◌ {A = ℕ} 0 1 = cc in absurd (omega arith)
first_none false c o e = (refl, e)

-- a number that is one, and does not reach the limit
below : (limit : ℕ) (o : Option ℕ) → is_none o ≡ false → reaches limit o ≡ false → unwrap_or o 0 < limit
below limit None p q = absurd (both_ways true p refl)
below limit (Some v) p q = leb-false limit v q

module _ (n : ℕ) where
  pair_below : (ws : List (List ℕ)) → is_none (slice_get ws 1) ≡ false → first_fault (pair_checks n (slice_get ws 0) (slice_get ws 1)) ≡ None → (number_at ws 0 < n) × (number_at ws 1 < n)
  pair_below [] there e = absurd (both_ways true there refl)
  pair_below (w ∷ []) there e = absurd (both_ways true there refl)
  pair_below (w ∷ v ∷ vs) there e =
      let none = none_holds (pair_checks n (Some w) (Some v)) e in
      let numbers = or_parts (is_none (value w)) (is_none (value v)) none.0 in
      let reach = or_parts (reaches n (value w)) (reaches n (value v)) none.1.0 in
      (below n (value w) numbers.0 reach.0, below n (value v) numbers.1 reach.1)

  second_there : (ws : List (List ℕ)) → is_none (slice_get ws 2) ≡ false → is_none (slice_get ws 1) ≡ false
  second_there [] h = h
  second_there (w ∷ []) h = h
  second_there (w ∷ v ∷ ws) h = refl

  turn_below : (ws : List (List ℕ)) → first_fault (turn_checks n ws) ≡ None → (number_at ws 0 < n) × (number_at ws 1 < n)
  turn_below ws e =
      let known = first_none _ UnknownWord _ e in
      let missing = first_none (is_none (slice_get ws 2)) MissingWord _ known.1 in
      let surplus = first_none (is_some (slice_get ws 3)) SurplusWord _ missing.1 in
      pair_below ws (second_there ws missing.0) surplus.1

module _ (limits : Limits) where
  verb_within : (v : Verb) (ws : List (List ℕ)) → first_fault (verb_checks limits v ws) ≡ None → Within limits (asked v ws)
  verb_within turn ws e = turn_below limits.networks ws e
  verb_within hear ws e =
      let missing = first_none (is_none (slice_get ws 1)) MissingWord _ e in
      let surplus = first_none (is_some (slice_get ws 2)) SurplusWord _ missing.1 in
      pair_below limits.networks ws missing.0 surplus.1
  verb_within rest ws e = tt
  verb_within send [] e = absurd (both_ways true (none_holds (verb_checks limits send []) e).0 refl)
  verb_within send (w ∷ []) e = absurd (both_ways true (none_holds (verb_checks limits send (w ∷ [])) e).0 refl)
  verb_within send (w ∷ v ∷ vs) e =
      let none = none_holds (verb_checks limits send (w ∷ v ∷ vs)) e in
      (below limits.networks (value w) none.1.1.0 none.1.1.1.1.0, address_fits v none.1.1.1.0)
  verb_within show [] e = absurd (both_ways true (none_holds (verb_checks limits show []) e).0 refl)
  verb_within show (w ∷ ws) e =
      let none = none_holds (verb_checks limits show (w ∷ ws)) e in
      below limits.blocks (value w) none.1.1.0 none.1.1.1.0

  named_within : (o : Option Verb) (ws : List (List ℕ)) (c : Command) → first_fault (named_checks limits o ws) ≡ None → option_map (λ v. asked v ws) o ≡ Some c → Within limits c
  named_within None ws c h e = let z : ◌≡◌ {A = ℕ} 0 1 = cc in absurd (omega arith)
  named_within (Some v) ws c h e = let same : asked v ws ≡ c = cc in subst (Within limits) same (verb_within v ws h)

  words_within : (ws : List (List ℕ)) (c : Command) → first_fault (words_checks limits ws) ≡ None → meaning ws ≡ Some c → Within limits c
  words_within [] c h e = let z : ◌≡◌ {A = ℕ} 0 1 = cc in absurd (omega arith)
  words_within (w ∷ ws) c h e = named_within (verb w) ws c h e

pub judged_ok : {X : Type 0} (o : Option Cause) (x y : X) → judged o x ≡ Ok y → (o ≡ None) × (x ≡ y)
judged_ok None x y e = (refl, cc)
judged_ok (Some c) x y e = let z : ◌≡◌ {A = ℕ} 0 1 = cc in absurd (omega arith)

pub line_within : (limits : Limits) (l : List ℕ) (c : Command) → read_line limits l ≡ Ok (Some c) → Within limits c
line_within limits l c e =
    let h = judged_ok (first_fault (line_checks limits l)) _ _ e in
    words_within limits (words (content l)) c (first_none _ BadByte _ h.0).1 h.1

module _ (n : ℕ) where
  first_within : (t : Bool) (ws : List (List ℕ)) → first_fault (cond t (turn_checks n ws) unknown) ≡ None → ((asked_turn ws).first < n) × ((asked_turn ws).second < n)
  first_within true ws h = turn_below n ws h
  first_within false ws h = let z : ◌≡◌ {A = ℕ} 0 1 = cc in absurd (omega arith)

  turns_within : (ws : List (List ℕ)) → first_fault (turns_checks n ws) ≡ None → TurnBounded n (Ok (meant ws))
  turns_within [] h = tt
  turns_within (w ∷ ws) h = first_within (is_turn w) ws h

  judged_within : (o : Option Cause) (x : Option Turn) → (o ≡ None → TurnBounded n (Ok x)) → TurnBounded n (judged o x)
  judged_within None x h = h refl
  judged_within (Some c) x h = tt

  pub turn_line_within : (l : List ℕ) → TurnBounded n (read_turn_line n l)
  turn_line_within l =
      judged_within (first_fault (turn_line_checks n l)) (meant (words (content l)))
      (λ e. turns_within (words (content l)) (first_none _ BadByte _ e).1)

bounded : (limits : Limits) (r : Result (Option Command) Cause) → ((c : Command) → r ≡ Ok (Some c) → Within limits c) → Bounded limits r
bounded limits (Ok None) h = tt
bounded limits (Ok (Some c)) h = h c refl
bounded limits (Err e) h = tt

pub line_bounded : (limits : Limits) (l : List ℕ) → Bounded limits (read_line limits l)
line_bounded limits l = bounded limits (read_line limits l) (line_within limits l)

-- what holds of the end and of what is read of each line holds of what comes next
module _ {T : Type 0} (P : Result (Option T) Cause → Type 0) (reads : Reader T) (ending : P (Ok None)) (each : (l : List ℕ) → P (reads l)) where
  reached_holds : (r : Result (Option T) Cause) (k : ℕ) (left : List ℕ) (later : Ahead T) → P r → P later.answer → P (reached r k left later).answer
  reached_holds (Ok None) k left later p q = q
  reached_holds (Ok (Some c)) k left later p q = p
  reached_holds (Err e) k left later p q = p

  pub ahead_holds : (k : ℕ) (ls : List Line) → P (ahead_in reads k ls).answer
  unfolding ahead_in
  ahead_holds k [] = ending
  ahead_holds k (l ∷ ls) = reached_holds (reads l.text) (k + 1) l.after _ (each l.text) (ahead_holds (k + 1) ls)
