-- What holds of every router, whatever its neighbours send. Assumes nothing.
use Rattle.std.specs.Prelude.{ℕ, Bool}
use Rattle.model.specs.Checks.{IsLowest}
use Rattle.model.specs.Hearing.{after_hearing, after_turning, hearing_checks, hearing_fault, number, turning_checks}
use Rattle.model.specs.Hearing.{turning_fault}
use Rattle.model.specs.Local.{Update, Local, silent}
use Rattle.model.specs.Packets.{packet_checks, packet_fault}
use Rattle.model.specs.Ports.{Port}
use Rattle.model.specs.Promise.{ProperSaying}
use Rattle.model.specs.World.{World}

-- every path that network i has received begins with its teller, ends at the home, repeats nothing, and is valley-free
abbrev pub HoldsProper : World → ℕ → Local → Type 0
HoldsProper w i s = (b : ℕ) (j : Port) → ProperSaying w i j b (s.received b j)

-- so it is at first, and after each update that is heard and each link that turns, whatever is sent
pub record StaysProper : Type 0 where
  pub first : (w : World) (i : ℕ) → HoldsProper w i silent
  pub hearing : (w : World) (i : ℕ) (j : Port) (u : Update) (s : Local) → HoldsProper w i s →
      HoldsProper w i (after_hearing w i j u s)
  pub turning : (w : World) (i : ℕ) (j : Port) (up : Bool) (s : Local) → HoldsProper w i s →
      HoldsProper w i (after_turning w i j up s)

-- the fault that is told is one that there is, none that there is has a lower number, and where none is told there is
-- none
pub record LowestIsTold : Type 0 where
  pub hearing : (w : World) (i : ℕ) (s : Local) (j : Port) (u : Update) →
      IsLowest number (hearing_checks w i s j u) (hearing_fault w i s j u)
  pub turning : (w : World) (i : ℕ) (j : Port) → IsLowest number (turning_checks w i j) (turning_fault w i j)
  pub packet : (w : World) (i : ℕ) (s : Local) (j : Port) →
      IsLowest number (packet_checks w i s j) (packet_fault w i s j)
