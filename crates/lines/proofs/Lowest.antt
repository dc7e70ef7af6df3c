-- Of a list of turns the first line with a fault is told, by the lowest of its faults. Assumes nothing.
use Rattle.std.proofs.Common.{◌≡◌, ℕ, ◌+◌, Bool, true, false, cond, not, List, [], ◌∷◌, ◌++◌, map, Some, None, Ok, Err, Option, Result, sym, refl, ap, ◌∙◌, subst}
use Rattle.std.specs.List.{AllByRecursion}
use Rattle.std.proofs.lemmas.Bool.{cond-true, cond-false}
use Rattle.model.specs.Checks.{Checks, IsLowest, ascends_from, first_fault}
use Rattle.model.proofs.Checks.{first_is_lowest}
use Rattle.model.specs.Relations.{related}
use Rattle.relations.specs.Sound.{networks, relation}
use Rattle.relations.specs.declared.sound.Relations.{Relations}
use Rattle.model.specs.Stable.{Links}
use Rattle.script.specs.Faults.{turn_checks, unknown}
use Rattle.script.specs.Lowest.{Clear, Lowest, told}
use Rattle.script.specs.Parts.{Line, content, lines, words}
use Rattle.script.specs.Turns.{is_turn, read_turn_line, turn_line_checks, turns_checks}
use Rattle.script.specs.Whole.{Entry, entries_in, noted}
use Rattle.script.specs.declared.cause.Cause as script
use Rattle.script.specs.declared.command.Turn.{Turn}
use Rattle.script.specs.declared.wording.Line as wording
use Rattle.script.proofs.Lowest.{first_of, one_more, turn_line_told}
use Rattle.stable.specs.Linked.{with_link}
use Rattle.stable.specs.declared.linked.LinkSet.{LinkSet}
use Rattle.text.specs.declared.faults.Fault.{Fault}
use Rattle.lines.specs.After.{Outcome, Said, all_down, links_after, links_said, turned}
use Rattle.lines.specs.Faults.{LowestTold, line_checks, of_line, unlinked}
use Rattle.lines.specs.Number.{number}
use Rattle.lines.specs.declared.cause.Cause.{Cause}
use Rattle.lines.specs.declared.cause.Cause.TheVariants.{Line as OfLine, NoLink}

-- the numbers of a line's checks never fall
turn_ascends : (n : ℕ) (t b : Bool) (ws : List (List ℕ)) → ascends_from number 1 (map of_line (cond t (turn_checks n ws) unknown) ++ (NoLink, b) ∷ []) ≡ true
turn_ascends n true b ws = refl
turn_ascends n false b ws = refl

ascends : (n : ℕ) (b : Bool) (ws : List (List ℕ)) → ascends_from number 1 (map of_line (turns_checks n ws) ++ (NoLink, b) ∷ []) ≡ true
ascends n b [] = refl
ascends n b (w ∷ ws) = turn_ascends n (is_turn w) b ws

-- the fault of a line that says no turn comes before others
abbrev or_later : Option script.Cause → Option Cause → Option Cause
or_later (Some c) later = Some (OfLine c)
or_later None later = later

first_by : (t : Bool) (c : script.Cause) (o : Option script.Cause) (later rest : Option Cause) → rest ≡ or_later o later → cond t (Some (OfLine c)) rest ≡ or_later (cond t (Some c) o) later
first_by true c o later rest e = refl
first_by false c o later rest e = e

first_of_line : (cs : Checks script.Cause) (later : Checks Cause) → first_fault (map of_line cs ++ later) ≡ or_later (first_fault cs) (first_fault later)
first_of_line [] later = refl
first_of_line (check ∷ cs) later = first_by check.1 check.0 (first_fault cs) (first_fault later) _ (first_of_line cs later)

module _ (r : Relations) where
  abbrev reads : List ℕ → Result (Option Turn) script.Cause
  reads l = read_turn_line (networks r) l

  -- what is told of a line, by what is read of it
  abbrev line_told : Result (Option Turn) script.Cause → Option Cause
  line_told x = or_later (told x) (cond (unlinked r x) (Some NoLink) None)

  line_lowest : (l : List ℕ) (x : Result (Option Turn) script.Cause) → reads l ≡ x → IsLowest number (line_checks r l) (line_told x)
  line_lowest l x is =
      let all : first_fault (line_checks r l) ≡ line_told (reads l) =
      first_of_line (turn_line_checks (networks r) l) ((NoLink, unlinked r (reads l)) ∷ []) ∙
      ap (λ o. or_later o (cond (unlinked r (reads l)) (Some NoLink) None)) (sym (turn_line_told (networks r) l)) in
      subst (IsLowest number (line_checks r l)) (all ∙ ap line_told is) (first_is_lowest number 0 (line_checks r l) (ascends (networks r) (unlinked r (reads l)) (words (content l))))

  -- the lines after line k, by what becomes of links
  abbrev LowestBy : ℕ → List Line → Outcome → Type 0
  LowestBy k ls (Ok links) = AllByRecursion (Clear number (line_checks r)) ls
  LowestBy k ls (Err why) = Lowest number (line_checks r) k ls why.0 (Some why.1)

  passed_over : (k : ℕ) (l : Line) (ls : List Line) (out : Outcome) → Clear number (line_checks r) l → LowestBy (k + 1) ls out → LowestBy k (l ∷ ls) out
  passed_over k l ls (Ok links) none h = (none, h)
  passed_over k l ls (Err why) none h = one_more number (line_checks r) k l ls (Some why.1) why.0 none h

  turn_read : (b : Bool) (k : ℕ) (l : Line) (ls : List Line) (links : Links) (t : Turn) (on : Links → Outcome) → related (relation r t.first t.second) ≡ b → IsLowest number (line_checks r l.text) (line_told (Ok (Some t))) → ((next : Links) → LowestBy (k + 1) ls (on next)) → LowestBy k (l ∷ ls) (turned r links (k + 1) (Ok t) on)
  turn_read true k l ls links t on is here h =
      let none = subst (λ b. IsLowest number (line_checks r l.text) (cond (not b) (Some NoLink) None)) is here in
      subst (LowestBy k (l ∷ ls)) (sym (cond-true (related (relation r t.first t.second)) _ _ is)) (passed_over k l ls _ none (h (with_link links t.first t.second t.up)))
  turn_read false k l ls links t on is here h =
      let some = subst (λ b. IsLowest number (line_checks r l.text) (cond (not b) (Some NoLink) None)) is here in
      subst (LowestBy k (l ∷ ls)) (sym (cond-false (related (relation r t.first t.second)) _ _ is)) (first_of number (line_checks r) k l ls (Some NoLink) some)

  line_read : (k : ℕ) (l : Line) (ls : List Line) (links : Links) (x : Result (Option Turn) script.Cause) (es : List (Entry Turn)) → IsLowest number (line_checks r l.text) (line_told x) → ((next : Links) → LowestBy (k + 1) ls (links_after r next es)) → LowestBy k (l ∷ ls) (links_after r links (noted x (k + 1) es))
  unfolding links_after
  line_read k l ls links (Ok None) es here h = passed_over k l ls _ here (h links)
  line_read k l ls links (Ok (Some t)) es here h = turn_read (related (relation r t.first t.second)) k l ls links t (λ next. links_after r next es) refl here h
  line_read k l ls links (Err c) es here h = first_of number (line_checks r) k l ls (Some (OfLine c)) here

  lowest_in : (k : ℕ) (ls : List Line) (links : Links) → LowestBy k ls (links_after r links (entries_in reads k ls))
  unfolding links_after entries_in
  lowest_in k [] links = tt
  lowest_in k (l ∷ ls) links = line_read k l ls links (reads l.text) (entries_in reads (k + 1) ls) (line_lowest l.text (reads l.text) refl) (λ next. lowest_in (k + 1) ls next)

  said_lowest : (bs : List ℕ) (out : Outcome) (answer : Result LinkSet (Fault wording.Line Cause)) → LowestBy 0 (lines bs) out → Said out answer → LowestTold r bs answer
  said_lowest bs (Ok links) (Ok s) h said = h
  said_lowest bs (Ok links) (Err f) h said = absurd said
  said_lowest bs (Err why) (Ok s) h said = absurd said
  said_lowest bs (Err why) (Err f) h said = subst (λ line. Lowest number (line_checks r) 0 (lines bs) line (Some f.cause)) (sym said.0) (subst (λ c. Lowest number (line_checks r) 0 (lines bs) why.0 (Some c)) (sym said.1) h)

  pub lowest_told : (bs : List ℕ) (answer : Result LinkSet (Fault wording.Line Cause)) → Said (links_said r bs) answer → LowestTold r bs answer
  lowest_told bs answer said = said_lowest bs (links_said r bs) answer (lowest_in 0 (lines bs) all_down) said
