-- A simulation's ties are sound, so less is left in flight with every hearing. Assumes nothing.
use Rattle.std.proofs.Common.{◌≡◌, ℕ, ◌<◌, true, length, sym, subst}
use mathlib.Core.Bool.{Bool-set}
use mathlib.Core.Logic.{∥∥₁_elim}
use Rattle.std.proofs.lemmas.Bool.{lt-ltb, ltb-true}
use Rattle.relations.specs.Sound.{relation}
use Rattle.relations.specs.declared.sound.Relations.{Relations}
use Rattle.blocks.specs.declared.block_list.BlockList.{BlockList}
use Rattle.model.proofs.Chosen.{strict}
use Rattle.model.specs.Run.{Move, State}
use Rattle.model.specs.World.{Sound}
use Rattle.model.specs.Levels.{Heights}
use Rattle.convergence.proofs.Falling.{falls}
use Rattle.convergence.proofs.Standing.{heights_exist}
use Rattle.simulation.specs.Resting.{Lessens}
use Rattle.simulation.specs.Simulated.{lookup_of, state_of, world_of}
use Rattle.simulation.specs.Steps.{both, hearing}
use Rattle.simulation.specs.Whole.{world_with}
use Rattle.simulation.specs.declared.simulation.Simulation.{Simulation}
use Rattle.simulation.proofs.Reaching.{heard_move}

pub sound : (r : Relations) (blocks : BlockList) → Sound (world_with r blocks)
sound r blocks = record {
  few = r.matrix.few;
  both = λ i j l m. r.matrix.mutual i j;
  acyclic = λ ring below cycle. r.acyclic ring cycle;
  ranked = λ i l. (strict (relation r i)).1;
  strict = λ i l. (strict (relation r i)).0;
}

pub lessens : (x : Simulation) (t : State) → Move (world_of x) (lookup_of x) (state_of x) t → Lessens (world_of x) (state_of x) t
lessens x t m height heights = ltb-true _ _ (∥∥₁_elim x.reached (Bool-set _ _) (λ r. lt-ltb _ _ (falls (world_of x) height (lookup_of x) (sound x.relations x.blocks) heights (state_of x) t r m)))

pub heard_lessens : (x : Simulation) (i j : ℕ) (t : State) → both (world_of x) i j ≡ true → 0 < length ((state_of x).flight i j) → t ≡ hearing (world_of x) (lookup_of x) i j (state_of x) → Lessens (world_of x) (state_of x) t
heard_lessens x i j t h some e = subst (Lessens (world_of x) (state_of x)) (sym e) (lessens x (hearing (world_of x) (lookup_of x) i j (state_of x)) (heard_move (world_of x) (lookup_of x) i j (state_of x) h some))

-- heights of the networks
pub heights : (x : Simulation) → (height : ℕ → ℕ) × Heights (world_of x) height
heights x = heights_exist (world_of x) (sound x.relations x.blocks)
