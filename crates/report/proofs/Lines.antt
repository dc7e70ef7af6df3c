-- The lines of the networks, one line on.
use Rattle.std.proofs.Common.{◌≡◌, ℕ, suc, ◌+◌, ◌<◌, ◌≤◌, ◌&&◌, ltb, List, ◌++◌, MatchOption, Some, Option, ap, ◌∙◌, subst, sym, arith}
use Rattle.std.proofs.lemmas.Bool.{and_from, cond-true, lt-ltb}
use Rattle.model.specs.Selection.{Choice, nothing}
use Rattle.model.specs.Local.{choice}
use Rattle.model.specs.Lists.{gather}
use Rattle.model.specs.Run.{State}
use Rattle.model.specs.World.{World}
use Rattle.simulation.specs.Shown.{goes_by}
use Rattle.simulation.specs.Simulated.{blocks_of, world_of}
use Rattle.blocks.specs.Shown.{IsBlockAt}
use Rattle.simulation.specs.declared.simulation.Simulation.{Simulation}
use Rattle.blocks.specs.declared.block_list.Block.{Block}
use Rattle.routes.specs.Lines.{route_words}

-- a block that is answered is one that there is, as the list has it
pub shown : (x : Simulation) (b : ℕ) (block : Block) (r : Option Block) → MatchOption r ((world_of x).blocks ≤ b) (IsBlockAt (blocks_of x) b) → r ≡ Some block → IsBlockAt (blocks_of x) b block
shown x b block r m is = subst (λ o. MatchOption o ((world_of x).blocks ≤ b) (IsBlockAt (blocks_of x) b)) is m

module _ (w : World) (s : State) (b : ℕ) where
  abbrev line : ℕ → List ℕ
  line i = route_words i (choice w i (s.locals i) b)

  pub next_line : (k : ℕ) (m : Choice) → k < w.n → b < w.blocks → m ≡ goes_by w s k b → gather line k ++ route_words k m ≡ gather line (k + 1)
  next_line k m hk hb e =
      let chosen : m ≡ choice w k (s.locals k) b = e ∙ cond-true (ltb k w.n && ltb b w.blocks) _ nothing (and_from _ _ (lt-ltb k w.n hk) (lt-ltb b w.blocks hb)) in
      let one : k + 1 ≡ suc k = omega arith in
      ap (λ c. gather line k ++ route_words k c) chosen ∙ sym (ap (gather line) one)
