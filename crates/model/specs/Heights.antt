-- Where there is no cycle, each network has a height, and a provider stands above its customers. Assumes nothing.
use Rattle.std.specs.Prelude.{◌≡◌, ℕ, ◌<◌}
use Rattle.model.specs.Relations.{Between, Mutual, Apart, Within}
use Rattle.model.specs.Cycles.{NoCycle}
use Rattle.model.specs.declared.relation.Relation.TheVariants.{Customer}

pub record Height (n : ℕ) (rel : Between) : Type 0 where
  pub height : ℕ → ℕ
  pub within : (i : ℕ) → i < n → height i < n
  pub falls : (i j : ℕ) → rel i j ≡ Customer → height j < height i

abbrev pub Heights : Type 0
Heights = (n : ℕ) (rel : Between) → Mutual rel → Apart rel → Within n rel → NoCycle rel → Height n rel
