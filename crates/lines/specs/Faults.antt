-- What may be wrong with a line of a list of turns, in the order in which it is told, and that the lowest is told.
-- Assumes nothing.
use Rattle.std.specs.Prelude.{Bool, false, not, ℕ, List, [], ◌∷◌, ◌++◌, map, Some, None, Ok, Err, Option, Result}
use Rattle.std.specs.List.{AllByRecursion}
use Rattle.text.specs.declared.faults.Fault.{Fault}
use Rattle.model.specs.Checks.{Checks}
use Rattle.model.specs.Relations.{related}
use Rattle.relations.specs.Sound.{networks, relation}
use Rattle.relations.specs.declared.sound.Relations.{Relations}
use Rattle.script.specs.Lowest.{Clear, Lowest}
use Rattle.script.specs.Parts.{lines}
use Rattle.script.specs.Turns.{read_turn_line, turn_line_checks}
use Rattle.script.specs.declared.cause.Cause as script
use Rattle.script.specs.declared.command.Turn.{Turn}
use Rattle.script.specs.declared.wording.Line as wording
use Rattle.stable.specs.declared.linked.LinkSet.{LinkSet}
use Rattle.lines.specs.declared.cause.Cause.{Cause}
use Rattle.lines.specs.declared.cause.Cause.TheVariants.{Line, NoLink}
use Rattle.lines.specs.Number.{number}

-- a fault of a line that says no turn
abbrev pub of_line : script.Cause × Bool → Cause × Bool
of_line check = (Line check.0, check.1)

-- a turn of two networks that are not related
abbrev pub unlinked : Relations → Result (Option Turn) script.Cause → Bool
unlinked r (Ok None) = false
unlinked r (Ok (Some t)) = not (related (relation r t.first t.second))
unlinked r (Err c) = false

-- of a line
abbrev pub line_checks : Relations → List ℕ → Checks Cause
line_checks r l =
    map of_line (turn_line_checks (networks r) l) ++
    (NoLink, unlinked r (read_turn_line (networks r) l)) ∷
    []

-- where there are links no line has a fault; and a fault that is told holds of its line, none of that line's has a
-- lower number, and no line before it has one
abbrev pub LowestTold : Relations → List ℕ → Result LinkSet (Fault wording.Line Cause) → Type 0
LowestTold r bs (Ok links) = AllByRecursion (Clear number (line_checks r)) (lines bs)
LowestTold r bs (Err f) = Lowest number (line_checks r) 0 (lines bs) f.place.0 (Some f.cause)
