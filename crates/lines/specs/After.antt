-- The links after a list of turns. Assumes nothing.
use Rattle.std.specs.Prelude.{◌≡◌, ℕ, ◌<◌, Bool, true, false, cond, List, [], ◌∷◌, Ok, Err, Result}
use Rattle.text.specs.declared.faults.Fault.{Fault}
use Rattle.model.specs.Relations.{related}
use Rattle.relations.specs.Sound.{networks, relation}
use Rattle.relations.specs.declared.sound.Relations.{Relations}
use Rattle.model.specs.Stable.{Links}
use Rattle.script.specs.Next.{line_of}
use Rattle.script.specs.Turns.{turn_entries}
use Rattle.script.specs.Whole.{Entry}
use Rattle.script.specs.declared.cause.Cause as script
use Rattle.script.specs.declared.command.Turn.{Turn}
use Rattle.script.specs.declared.script.Script.{Script}
use Rattle.script.specs.declared.wording.Line as wording
use Rattle.stable.specs.Linked.{up, with_link}
use Rattle.stable.specs.declared.linked.LinkSet.{LinkSet}
use Rattle.lines.specs.declared.cause.Cause.{Cause}
use Rattle.lines.specs.declared.cause.Cause.TheVariants.{Line, NoLink}

-- links, or a line and what is wrong there
abbrev pub Outcome : Type 0
Outcome = Result Links (ℕ × Cause)

-- a turn of two related networks turns their link, and the later lines go on from there; of others there is no link
abbrev pub turned : Relations → Links → ℕ → Result Turn script.Cause → (Links → Outcome) → Outcome
turned r links k (Ok t) on =
    cond (related (relation r t.first t.second)) (on (with_link links t.first t.second t.up)) (Err (k, NoLink))
turned r links k (Err c) on = Err (k, Line c)

-- what becomes of links by the entries of a list, one after the other
unfoldable pub links_after : Relations → Links → List (Entry Turn) → Outcome
links_after r links [] = Ok links
links_after r links (e ∷ es) = turned r links e.line e.says (λ next. links_after r next es)

abbrev pub all_down : Links
all_down i j = false

-- what a list of turns makes of links that are all down
abbrev pub links_said : Relations → List ℕ → Outcome
links_said r text = links_after r all_down (turn_entries (networks r) 0 text)

-- an answer is what is said, link by link, or by its line and cause
abbrev pub Said : Outcome → Result LinkSet (Fault wording.Line Cause) → Type 0
Said (Ok links) (Ok s) = (i j : ℕ) → up s i j ≡ links i j
Said (Ok links) (Err f) = ⊥
Said (Err why) (Ok s) = ⊥
Said (Err why) (Err f) = (f.place.0 ≡ why.0) × (f.cause ≡ why.1)

-- what is yet to come where a turn was taken, or the end, or a fault
abbrev pub taken : {E : Type 0} → (E → ℕ × Cause) → Relations → Result Bool E → Links → ℕ → List ℕ → Outcome
taken fault r (Ok true) links k left = links_after r links (turn_entries (networks r) k left)
taken fault r (Ok false) links k left = Ok links
taken fault r (Err e) links k left = Err (fault e)

-- the line that was read last, and a cause
abbrev pub at_line : Script → Cause → ℕ × Cause
at_line s c = (line_of s, c)

abbrev pub placed : Fault wording.Line Cause → ℕ × Cause
placed f = (f.place.0, f.cause)

-- a turn takes at least one byte
abbrev pub Shortens : {E : Type 0} → Result Bool E → ℕ → ℕ → Type 0
Shortens (Ok true) was is = is < was
Shortens (Ok false) was is = Unit {0}
Shortens (Err e) was is = Unit {0}

-- two networks are related, and their link has turned
abbrev pub Linked : Relations → Turn → Links → Links → Type 0
Linked r t before after =
    (related (relation r t.first t.second) ≡ true) ×
    ((i j : ℕ) → after i j ≡ with_link before t.first t.second t.up i j)
