-- A list of turns beside a script of the same text. Assumes nothing.
use Rattle.std.proofs.Common.{◌≡◌, ◌≢◌, ℕ, ◌+◌, Bool, true, false, cond, not, List, [], ◌∷◌, Some, None, Ok, Err, Option, Result, codes, sym, refl, ap, ◌∙◌, arith}
use Rattle.std.specs.Option.{option_map}
use Rattle.std.specs.Str.{bytes_eq}
use Rattle.std.proofs.lemmas.Bool.{both_ways, cond-true, cond-false}
use Rattle.model.specs.Checks.{first_fault}
use Rattle.script.specs.declared.cause.Cause.{Cause}
use Rattle.script.specs.declared.cause.Cause.TheVariants.{BadByte, UnknownWord}
use Rattle.script.specs.declared.command.Command.{Command}
use Rattle.script.specs.declared.command.Command.TheVariants as command
use Rattle.script.specs.declared.command.Limits.{Limits}
use Rattle.script.specs.declared.command.Turn.{Turn}
use Rattle.script.specs.Faults.{Verb, hear, line_checks, named_checks, plain, rest, send, show, turn, turn_checks, unknown, verb, words_checks}
use Rattle.script.specs.Laws.{OtherCommands, OthersUnknown, TurnsAlone, TurnsAsInScripts, TurnsLineByLine, TurnsNextByNext}
use Rattle.script.specs.Meaning.{asked, judged, meaning, read_line}
use Rattle.script.specs.Parts.{Line, content, lines, words}
use Rattle.script.specs.Turns.{as_command, as_read, commands_at, is_turn, meant, opens, read_turn_line, turns_at, turns_checks}
use Rattle.script.specs.Whole.{Entry, entries_in, noted}
use Rattle.script.proofs.Bounds.{first_none, judged_ok}
use Rattle.script.proofs.Entries.{line_by_line_of, next_by_next_of}

abbrev lift_some : {T : Type 0} → Result T Cause → Result (Option T) Cause
lift_some (Ok x) = Ok (Some x)
lift_some (Err c) = Err c

as_read_judged : (o : Option Cause) (x : Option Turn) → as_read (judged o x) ≡ judged o (option_map as_command x)
as_read_judged None None = refl
as_read_judged None (Some t) = refl
as_read_judged (Some c) x = refl

-- whatever else is wrong with a line
opened_same : (limits : Limits) (bad : Bool) (ws : List (List ℕ)) → opens ws ≡ true → judged (first_fault ((BadByte, bad) ∷ words_checks limits ws)) (meaning ws) ≡ as_read (judged (first_fault ((BadByte, bad) ∷ turns_checks limits.networks ws)) (meant ws))
opened_same limits bad [] h = sym (as_read_judged (first_fault ((BadByte, bad) ∷ [])) None)
opened_same limits bad (w ∷ ws) h =
    let named : verb w ≡ Some turn = cond-true (is_turn w) _ _ h in
    ap (λ o. judged (first_fault ((BadByte, bad) ∷ named_checks limits o ws)) (option_map (λ v. asked v ws) o)) named ∙
    ap (λ t. judged (first_fault ((BadByte, bad) ∷ cond t (turn_checks limits.networks ws) unknown)) (Some (asked turn ws))) (sym h) ∙
    sym (as_read_judged (first_fault ((BadByte, bad) ∷ turns_checks limits.networks (w ∷ ws))) (meant (w ∷ ws)))

pub turns_as_in_scripts_lem : TurnsAsInScripts
turns_as_in_scripts_lem limits line h = opened_same limits (not (plain (content line))) (words (content line)) h

unknown_told : (good : Bool) (x : Option Turn) → judged (first_fault ((BadByte, not good) ∷ unknown)) x ≡ Err (cond good UnknownWord BadByte)
unknown_told true x = refl
unknown_told false x = refl

closed_unknown : (n : ℕ) (good : Bool) (ws : List (List ℕ)) → opens ws ≡ false → judged (first_fault ((BadByte, not good) ∷ turns_checks n ws)) (meant ws) ≡ Err (cond good UnknownWord BadByte)
closed_unknown n good [] h = absurd (both_ways true h refl)
closed_unknown n good (w ∷ ws) h =
    ap (λ t. judged (first_fault ((BadByte, not good) ∷ cond t (turn_checks n ws) unknown)) (meant (w ∷ ws))) h ∙
    unknown_told good (meant (w ∷ ws))

pub others_unknown_lem : OthersUnknown
others_unknown_lem n line h = closed_unknown n (plain (content line)) (words (content line)) h

-- a line that says no turn: nothing is read as one of it, and it is not empty
not_turn : (limits : Limits) (o : Option Verb) (ws : List (List ℕ)) → o ≢ Some turn → first_fault (named_checks limits o ws) ≡ None → (option_map (λ v. asked v ws) o ≢ None) × ((t : Turn) → option_map (λ v. asked v ws) o ≢ Some (as_command t))
not_turn limits None ws h e = let z : ◌≡◌ {A = ℕ} 0 1 = cc in absurd (omega arith)
not_turn limits (Some turn) ws h e = absurd (h refl)
not_turn limits (Some hear) ws h e = ((λ q. let z : ◌≡◌ {A = ℕ} 0 1 = cc in absurd (omega arith)), (λ t q. let z : ◌≡◌ {A = ℕ} 0 1 = cc in absurd (omega arith)))
not_turn limits (Some send) ws h e = ((λ q. let z : ◌≡◌ {A = ℕ} 0 1 = cc in absurd (omega arith)), (λ t q. let z : ◌≡◌ {A = ℕ} 0 1 = cc in absurd (omega arith)))
not_turn limits (Some show) ws h e = ((λ q. let z : ◌≡◌ {A = ℕ} 0 1 = cc in absurd (omega arith)), (λ t q. let z : ◌≡◌ {A = ℕ} 0 1 = cc in absurd (omega arith)))
not_turn limits (Some rest) ws h e = ((λ q. let z : ◌≡◌ {A = ℕ} 0 1 = cc in absurd (omega arith)), (λ t q. let z : ◌≡◌ {A = ℕ} 0 1 = cc in absurd (omega arith)))

-- a word that is not `turn` names something else, or nothing
other_verb : (a b c d : Bool) → cond a (Some hear) (cond b (Some send) (cond c (Some show) (cond d (Some rest) None))) ≢ Some turn
other_verb true b c d q = let z : ◌≡◌ {A = ℕ} 0 1 = cc in absurd (omega arith)
other_verb false true c d q = let z : ◌≡◌ {A = ℕ} 0 1 = cc in absurd (omega arith)
other_verb false false true d q = let z : ◌≡◌ {A = ℕ} 0 1 = cc in absurd (omega arith)
other_verb false false false true q = let z : ◌≡◌ {A = ℕ} 0 1 = cc in absurd (omega arith)
other_verb false false false false q = let z : ◌≡◌ {A = ℕ} 0 1 = cc in absurd (omega arith)

no_turn_verb : (w : List ℕ) → is_turn w ≡ false → verb w ≢ Some turn
no_turn_verb w h q = other_verb (bytes_eq w (codes "hear")) (bytes_eq w (codes "send")) (bytes_eq w (codes "show")) (bytes_eq w (codes "rest")) (sym (cond-false (is_turn w) _ _ h) ∙ q)

-- a line that is read as something, and does not begin with `turn`
closed_words : (limits : Limits) (ws : List (List ℕ)) → opens ws ≡ false → first_fault (words_checks limits ws) ≡ None → (meaning ws ≢ None) × ((t : Turn) → meaning ws ≢ Some (as_command t))
closed_words limits [] h e = absurd (both_ways true h refl)
closed_words limits (w ∷ ws) h e = not_turn limits (verb w) ws (no_turn_verb w h) e

-- a line has no bad byte, and means what was read
record Fine (limits : Limits) (line : List ℕ) (x : Option Command) : Type 0 where
  good : plain (content line) ≡ true
  known : first_fault (words_checks limits (words (content line))) ≡ None
  means : meaning (words (content line)) ≡ x

good_line : (p : Bool) → not p ≡ false → p ≡ true
good_line true h = refl
good_line false h = absurd (both_ways true h refl)

fine : (limits : Limits) (line : List ℕ) (x : Option Command) → read_line limits line ≡ Ok x → Fine limits line x
fine limits line x e =
    let h = judged_ok (first_fault (line_checks limits line)) _ _ e in
    let bad = first_none (not (plain (content line))) BadByte _ h.0 in
    record { good = good_line (plain (content line)) bad.0; known = bad.1; means = h.1 }

as_read_some : (r : Result (Option Turn) Cause) (c : Command) → as_read r ≡ Ok (Some c) → ((t : Turn) → c ≢ as_command t) → ⊥
as_read_some (Ok None) c e other = let z : ◌≡◌ {A = ℕ} 0 1 = cc in omega arith
as_read_some (Ok (Some t)) c e other = other t cc
as_read_some (Err d) c e other = let z : ◌≡◌ {A = ℕ} 0 1 = cc in omega arith

other_by : (b : Bool) (limits : Limits) (line : List ℕ) (c : Command) → opens (words (content line)) ≡ b → ((t : Turn) → c ≢ as_command t) → read_line limits line ≡ Ok (Some c) → read_turn_line limits.networks line ≡ Err UnknownWord
other_by true limits line c h other e = absurd (as_read_some _ c (sym (turns_as_in_scripts_lem limits line h) ∙ e) other)
other_by false limits line c h other e = others_unknown_lem limits.networks line h ∙ ap (λ good. Err (cond good UnknownWord BadByte)) (fine limits line (Some c) e).good

pub other_commands_lem : OtherCommands
other_commands_lem limits line c = other_by (opens (words (content line))) limits line c refl

abbrev turn_of : Command → Turn
turn_of (command.Turn i j up) = record { first = i; second = j; up = up }
turn_of (command.Hear i j) = record { first = i; second = j; up = false }
turn_of (command.Send i a) = record { first = i; second = i; up = false }
turn_of (command.Show b) = record { first = b; second = b; up = false }
turn_of command.Rest = record { first = 0; second = 0; up = false }

abbrev turned : Result (Option Command) Cause → Result (Option Turn) Cause
turned (Ok o) = Ok (option_map turn_of o)
turned (Err c) = Err c

turned_back : (r : Result (Option Turn) Cause) → turned (as_read r) ≡ r
turned_back (Ok None) = refl
turned_back (Ok (Some t)) = refl
turned_back (Err c) = refl

turned_ok : (x : Option Turn) → turned (Ok (option_map as_command x)) ≡ Ok x
turned_ok None = refl
turned_ok (Some t) = refl

as_read_ok : (x : Option Turn) → as_read (Ok x) ≡ Ok (option_map as_command x)
as_read_ok None = refl
as_read_ok (Some t) = refl

module _ (limits : Limits) where
  closed_none : (line : List ℕ) (x : Option Turn) → opens (words (content line)) ≡ false → Fine limits line (option_map as_command x) → ⊥
  closed_none line None h f = (closed_words limits (words (content line)) h f.known).0 f.means
  closed_none line (Some t) h f = (closed_words limits (words (content line)) h f.known).1 t f.means

  -- one line, from a script to a list of turns
  forth_by : (b : Bool) (line : List ℕ) (x : Option Turn) → opens (words (content line)) ≡ b → read_line limits line ≡ Ok (option_map as_command x) → read_turn_line limits.networks line ≡ Ok x
  forth_by true line x h e = sym (turned_back (read_turn_line limits.networks line)) ∙ ap turned (sym (turns_as_in_scripts_lem limits line h) ∙ e) ∙ turned_ok x
  forth_by false line x h e = absurd (closed_none line x h (fine limits line _ e))

  -- and back
  back_by : (b : Bool) (line : List ℕ) (x : Option Turn) → opens (words (content line)) ≡ b → read_turn_line limits.networks line ≡ Ok x → read_line limits line ≡ Ok (option_map as_command x)
  back_by true line x h e = turns_as_in_scripts_lem limits line h ∙ ap as_read e ∙ as_read_ok x
  back_by false line x h e =
      let other = others_unknown_lem limits.networks line h in
      let z : ◌≡◌ {A = ℕ} 0 1 = cc in absurd (omega arith)

  forth : (line : List ℕ) (x : Option Turn) → read_line limits line ≡ Ok (option_map as_command x) → read_turn_line limits.networks line ≡ Ok x
  forth line x = forth_by (opens (words (content line))) line x refl

  back : (line : List ℕ) (x : Option Turn) → read_turn_line limits.networks line ≡ Ok x → read_line limits line ≡ Ok (option_map as_command x)
  back line x = back_by (opens (words (content line))) line x refl

  forth_on : (r : Result (Option Command) Cause) (k : ℕ) (line : List ℕ) (es : List (Entry Command)) (fs : List (Entry Turn)) (ts : List (ℕ × Turn)) → read_line limits line ≡ r → noted r k es ≡ commands_at ts → ((us : List (ℕ × Turn)) → es ≡ commands_at us → fs ≡ turns_at us) → noted (read_turn_line limits.networks line) k fs ≡ turns_at ts
  forth_on (Ok None) k line es fs ts read e on = ap (λ r. noted r k fs) (forth line None read) ∙ on ts e
  forth_on (Ok (Some c)) k line es fs [] read e on = let z : ◌≡◌ {A = ℕ} 0 1 = cc in absurd (omega arith)
  forth_on (Ok (Some c)) k line es fs (t ∷ ts) read e on =
      let first : ◌≡◌ {A = Entry Command} (record { line = k; says = Ok c }) (record { line = t.0; says = Ok (as_command t.1) }) = cc in
      let more : es ≡ commands_at ts = cc in
      let said : read_line limits line ≡ Ok (Some (as_command t.1)) = read ∙ ap lift_some (ap (λ x. x.says) first) in
      ap (λ r. noted r k fs) (forth line (Some t.1) said) ∙ (λ i. record { line = (ap (λ x. x.line) first) i; says = Ok t.1 } ∷ on ts more i)
  forth_on (Err c) k line es fs [] read e on = let z : ◌≡◌ {A = ℕ} 0 1 = cc in absurd (omega arith)
  forth_on (Err c) k line es fs (t ∷ ts) read e on =
      let first : ◌≡◌ {A = Entry Command} (record { line = k; says = Err c }) (record { line = t.0; says = Ok (as_command t.1) }) = cc in
      let says = ap (λ x. x.says) first in
      let z : ◌≡◌ {A = ℕ} 0 1 = cc in absurd (omega arith)

  forth_in : (k : ℕ) (ls : List Line) (ts : List (ℕ × Turn)) → entries_in (read_line limits) k ls ≡ commands_at ts → entries_in (read_turn_line limits.networks) k ls ≡ turns_at ts
  unfolding entries_in
  forth_in k [] [] e = refl
  forth_in k [] (t ∷ ts) e = let z : ◌≡◌ {A = ℕ} 0 1 = cc in absurd (omega arith)
  forth_in k (l ∷ ls) ts e = forth_on (read_line limits l.text) (k + 1) l.text _ _ ts refl e (forth_in (k + 1) ls)

  back_on : (r : Result (Option Turn) Cause) (k : ℕ) (line : List ℕ) (es : List (Entry Command)) (fs : List (Entry Turn)) (ts : List (ℕ × Turn)) → read_turn_line limits.networks line ≡ r → noted r k fs ≡ turns_at ts → ((us : List (ℕ × Turn)) → fs ≡ turns_at us → es ≡ commands_at us) → noted (read_line limits line) k es ≡ commands_at ts
  back_on (Ok None) k line es fs ts read e on = ap (λ r. noted r k es) (back line None read) ∙ on ts e
  back_on (Ok (Some c)) k line es fs [] read e on = let z : ◌≡◌ {A = ℕ} 0 1 = cc in absurd (omega arith)
  back_on (Ok (Some c)) k line es fs (t ∷ ts) read e on =
      let first : ◌≡◌ {A = Entry Turn} (record { line = k; says = Ok c }) (record { line = t.0; says = Ok t.1 }) = cc in
      let more : fs ≡ turns_at ts = cc in
      let said : read_turn_line limits.networks line ≡ Ok (Some t.1) = read ∙ ap lift_some (ap (λ x. x.says) first) in
      ap (λ r. noted r k es) (back line (Some t.1) said) ∙ (λ i. record { line = (ap (λ x. x.line) first) i; says = Ok (as_command t.1) } ∷ on ts more i)
  back_on (Err c) k line es fs [] read e on = let z : ◌≡◌ {A = ℕ} 0 1 = cc in absurd (omega arith)
  back_on (Err c) k line es fs (t ∷ ts) read e on =
      let first : ◌≡◌ {A = Entry Turn} (record { line = k; says = Err c }) (record { line = t.0; says = Ok t.1 }) = cc in
      let says = ap (λ x. x.says) first in
      let z : ◌≡◌ {A = ℕ} 0 1 = cc in absurd (omega arith)

  back_in : (k : ℕ) (ls : List Line) (ts : List (ℕ × Turn)) → entries_in (read_turn_line limits.networks) k ls ≡ turns_at ts → entries_in (read_line limits) k ls ≡ commands_at ts
  unfolding entries_in
  back_in k [] [] e = refl
  back_in k [] (t ∷ ts) e = let z : ◌≡◌ {A = ℕ} 0 1 = cc in absurd (omega arith)
  back_in k (l ∷ ls) ts e = back_on (read_turn_line limits.networks l.text) (k + 1) l.text _ _ ts refl e (back_in (k + 1) ls)

pub turns_alone_lem : TurnsAlone
turns_alone_lem limits k text ts = (forth_in limits k (lines text) ts, back_in limits k (lines text) ts)

pub turns_line_by_line : TurnsLineByLine
turns_line_by_line n = line_by_line_of (read_turn_line n)

pub turns_next_by_next : TurnsNextByNext
turns_next_by_next n = next_by_next_of (read_turn_line n)
