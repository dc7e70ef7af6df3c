-- Heights of networks, and the levels of channels that they give. Assumes nothing.
use Rattle.std.specs.Prelude.{◌≡◌, ℕ, ◌-◌, ◌*◌, ◌<◌}
use Rattle.model.specs.declared.relation.Relation.{Relation}
use Rattle.model.specs.declared.relation.Relation.TheVariants.{Unrelated, Customer, Peer, Provider}
use Rattle.model.specs.Ports.{Port}
use Rattle.model.specs.World.{World, Sound, rel_at}

-- a height for each network: below n, and a provider stands above its customers
pub record Heights (w : World) (height : ℕ → ℕ) : Type 0 where
  pub within : (i : ℕ) → i < w.n → height i < w.n
  pub falls : (i j : ℕ) → i < w.n → j < w.n → w.rel i j ≡ Customer → height j < height i

-- of n networks, the level of a channel from one of a height to one that is so related to it: first the channels up to
-- providers, from the lowest network on, then those to peers, then those down to customers, from the highest network on
abbrev pub level_to : ℕ → ℕ → Relation → ℕ
level_to n height Unrelated = n
level_to n height Customer = 2 * n - height
level_to n height Peer = n
level_to n height Provider = height

abbrev pub level : World → (ℕ → ℕ) → ℕ → Port → ℕ
level w height i k = level_to w.n (height i) (rel_at w i k)

-- sound ties give heights
abbrev pub HeightsExist : Type 0
HeightsExist = (w : World) → Sound w → (height : ℕ → ℕ) × Heights w height
