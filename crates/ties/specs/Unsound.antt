-- The refusal of a file whose table is not taken. Assumes nothing.
use Rattle.cycles.specs.declared.check.Unsound.{Unsound}
use Rattle.cycles.specs.declared.check.Unsound.TheVariants.{Cycle as CycleOfTable, Memory as NoMemory}
use Rattle.ties.specs.declared.refusal.Refusal.{Refusal}
use Rattle.ties.specs.declared.refusal.Refusal.TheVariants.{Cycle, Memory}

-- the same cycle, or want of memory
abbrev pub refusal_of : Unsound → Refusal
refusal_of (CycleOfTable ring) = Cycle ring
refusal_of NoMemory = Memory
