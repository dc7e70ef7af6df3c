-- What the rules say of a router, by what all networks share and by its tables. Assumes nothing.
use Rattle.std.specs.Prelude.{ℕ, Bool, List, Option, Result, Some, if◌then◌else◌, nat_lt}
use Rattle.model.specs.Checks.{first_fault}
use Rattle.model.specs.Hearing.{after_hearing, after_turning, hearing_fault, teller_checks, way_checks}
use Rattle.model.specs.Local.{Local, Update, choice}
use Rattle.model.specs.Paths.{Path}
use Rattle.model.specs.Ports.{Port}
use Rattle.model.specs.Selection.{Choice, nothing}
use Rattle.model.specs.declared.fault.Fault.{Fault}
use Rattle.selection.specs.declared.set.NetworkSet.{NetworkSet}
use Rattle.selection.specs.declared.world.World.{World}
use Rattle.links.specs.Answers.{Answered, TurnAnswered}
use Rattle.links.specs.Held.{blocks_of, held, number_of, world_for}
use Rattle.links.specs.declared.router.Router.{Router}
use Rattle.links.specs.declared.tables.Tables.{Tables}

-- what it goes by for a block; nothing where its tables are not of the block
abbrev pub chosen : Router → World → Tables → ℕ → Choice
chosen r world t block =
    if nat_lt block (blocks_of t) then choice (world_for world t) (number_of r) (held r t) block else nothing

-- why an update of a block that it hears at port j is refused for its teller
abbrev pub teller_fault : Router → World → Tables → Port → ℕ → Option Fault
teller_fault r world t j block = first_fault (teller_checks (world_for world t) (number_of r) (held r t) j block)

-- why a path for a block that it hears there is refused for its way
abbrev pub way_fault : Router → World → Tables → Port → ℕ → Path → Option Fault
way_fault r world t j block p = first_fault (way_checks (world_for world t) (number_of r) j block (Some p))

-- why an update that it hears there is refused
abbrev pub update_fault : Router → World → Tables → Port → Update → Option Fault
update_fault r world t j u = hearing_fault (world_for world t) (number_of r) (held r t) j u

-- what it holds after it heard an update there, and what it answers
abbrev pub held_after_hearing : Router → World → Tables → Port → Update → Local
held_after_hearing r world t j u = after_hearing (world_for world t) (number_of r) j u (held r t)

abbrev pub AnswersHearing : Router → World → Tables → Port → Update → Result NetworkSet Fault → Type 0
AnswersHearing r world t j u answer = Answered (world_for world t) (number_of r) (held r t) j u answer

-- what it holds after its link to a neighbour turned, and what it answers
abbrev pub held_after_turning : Router → World → Tables → Port → Bool → Local
held_after_turning r world t j up = after_turning (world_for world t) (number_of r) j up (held r t)

abbrev pub AnswersTurn : Router → World → Tables → Port → Bool → List NetworkSet → Result (Unit {0}) Fault → Type 0
AnswersTurn r world t j up audiences answer =
    TurnAnswered (world_for world t) (number_of r) (held r t) j up audiences answer
