-- What a network does with what it hears and with a link that turns, refusals too: it takes what was said, and then
-- exports what is due. Assumes nothing.
use Rattle.std.specs.Prelude.{ℕ, Bool, true, false, not, ◌||◌, List, [], ◌∷◌, ◌++◌, length, Some, None, Option, ◌==◌}
use Rattle.std.specs.Prelude.{nat_le, nat_lt}
use Rattle.model.specs.FirstFault.{Checks, first_fault}
use Rattle.model.specs.Local.{Update, Local, retold, sent, outbox, at}
use Rattle.model.specs.Paths.{begins, ends, repeats, below, valley_free}
use Rattle.model.specs.Ports.{Port, far, ports}
use Rattle.model.specs.Relations.{related}
use Rattle.model.specs.Selection.{Said}
use Rattle.model.specs.World.{World, rel_at}
use Rattle.model.specs.declared.limits.TheConstants.{MOST_NETWORKS}
use Rattle.model.specs.declared.fault.Fault.{Fault}
use Rattle.model.specs.declared.fault.Fault.TheVariants.{BadLength, NoSuchNetwork, NoSuchBlock, NotRelated, LinkDown}
use Rattle.model.specs.declared.fault.Fault.TheVariants.{WrongStart, WrongEnd, Repeats, NotValleyFree, NoLink}

-- the number of a fault
abbrev pub number : Fault → ℕ
number BadLength = 1
number NoSuchNetwork = 2
number NoSuchBlock = 2
number NotRelated = 6
number LinkDown = 6
number WrongStart = 7
number WrongEnd = 7
number Repeats = 8
number NotValleyFree = 9
number NoLink = 10

-- a path of no network, or of more than there may be
abbrev pub bad_length : List ℕ → Bool
bad_length xs = length xs == 0 || nat_lt MOST_NETWORKS (length xs)

-- a test of the networks of what is said, where it is a path
abbrev pub of_path : Said → (List ℕ → Bool) → Bool
of_path None test = false
of_path (Some p) test = test p.networks

-- what may be wrong with how many networks a path has, and which
abbrev pub network_checks : ℕ → Said → Checks Fault
network_checks n says =
    (BadLength, of_path says bad_length) ∷ (NoSuchNetwork, of_path says (λ xs. not (below n xs))) ∷ []

-- with port j, at which network i hears of a block
abbrev pub teller_checks : World → ℕ → Local → Port → ℕ → Checks Fault
teller_checks w i s j block =
    (NoSuchNetwork, nat_le (ports w.n) j) ∷
    (NoSuchBlock, nat_le w.blocks block) ∷
    (NotRelated, not (related (rel_at w i j))) ∷
    (LinkDown, not (s.up j)) ∷
    []

-- with the way that a path takes to a home of the block
abbrev pub way_checks : World → ℕ → Port → ℕ → Said → Checks Fault
way_checks w i j block says =
    (WrongStart, of_path says (λ xs. not (begins (far i j) xs))) ∷
    (WrongEnd, of_path says (λ xs. not (ends (w.is_home block) xs))) ∷
    (Repeats, of_path says repeats) ∷
    (NotValleyFree, of_path says (λ xs. not (valley_free w.rel i xs))) ∷
    []

-- with an update that network i hears at port j
abbrev pub hearing_checks : World → ℕ → Local → Port → Update → Checks Fault
hearing_checks w i s j u =
    network_checks w.n u.says ++ (teller_checks w i s j u.block ++ way_checks w i j u.block u.says)

abbrev pub hearing_fault : World → ℕ → Local → Port → Update → Option Fault
hearing_fault w i s j u = first_fault (hearing_checks w i s j u)

-- what may be wrong with a turn of the link at port j of network i
abbrev pub turning_checks : World → ℕ → Port → Checks Fault
turning_checks w i j = (NoSuchNetwork, nat_le (ports w.n) j) ∷ (NoLink, not (related (rel_at w i j))) ∷ []

abbrev pub turning_fault : World → ℕ → Port → Option Fault
turning_fault w i j = first_fault (turning_checks w i j)

-- an update is taken: what was received at port j is replaced
abbrev pub replaced : Port → Update → Local → Local
replaced j u s = record {
  up = s.up;
  received = at u.block (at j u.says (s.received u.block)) s.received;
  advertised = s.advertised;
}

-- a turn is taken: what went over the link at port j is forgotten for all blocks, and the link is up or not
abbrev pub forgotten : Port → Bool → Local → Local
forgotten j b s = record {
  up = at j b s.up;
  received = λ c. at j None (s.received c);
  advertised = λ c. at j None (s.advertised c);
}

-- after an update its block alone is exported, after a turn every block
abbrev pub only : ℕ → ℕ → Bool
only block b = b == block

abbrev pub every : ℕ → Bool
every b = true

-- one thing where there is a fault, another where there is none
abbrev pub unless : {X : Type 0} → Option Fault → X → X → X
unless (Some f) refused taken = refused
unless None refused taken = taken

-- what network i holds after it heard an update at port j, and what it sends to port k: a refused one changes nothing,
-- and nothing is sent
abbrev pub after_hearing : World → ℕ → Port → Update → Local → Local
after_hearing w i j u s = unless (hearing_fault w i s j u) s (retold w i (only u.block) (replaced j u s))

abbrev pub sent_on_hearing : World → ℕ → Port → Update → Local → Port → List Update
sent_on_hearing w i j u s k = unless (hearing_fault w i s j u) [] (sent w i (only u.block) (replaced j u s) k)

-- all that it then sends, in its order
abbrev pub outbox_on_hearing : World → ℕ → Port → Update → Local → List (Port × Update)
outbox_on_hearing w i j u s = unless (hearing_fault w i s j u) [] (outbox w i (only u.block) (replaced j u s))

-- the same of a link that turns
abbrev pub after_turning : World → ℕ → Port → Bool → Local → Local
after_turning w i j b s = unless (turning_fault w i j) s (retold w i every (forgotten j b s))

abbrev pub sent_on_turning : World → ℕ → Port → Bool → Local → Port → List Update
sent_on_turning w i j b s k = unless (turning_fault w i j) [] (sent w i every (forgotten j b s) k)

abbrev pub outbox_on_turning : World → ℕ → Port → Bool → Local → List (Port × Update)
outbox_on_turning w i j b s = unless (turning_fault w i j) [] (outbox w i every (forgotten j b s))
