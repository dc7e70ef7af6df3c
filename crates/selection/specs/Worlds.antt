-- What all networks share, in the terms of the rules. Assumes nothing.
use Rattle.std.specs.Prelude.{ℕ, Bool, false, ◌==◌, List, Some, None, Option, slice_get}
use Rattle.model.specs.Selection.{by_keys}
use Rattle.model.specs.World as rules
use Rattle.relations.specs.Sound.{networks, relation}
use Rattle.relations.specs.declared.sound.Relations.{Relations}
use Rattle.selection.specs.declared.world.World.{World}

-- a network is the home
abbrev pub is_network : Option ℕ → ℕ → Bool
is_network None i = false
is_network (Some home) i = i == home

-- whether the addresses of a block are at home at a network, by the homes of the blocks
abbrev pub is_home_by : List ℕ → ℕ → ℕ → Bool
is_home_by homes b i = is_network (slice_get homes b) i

abbrev pub is_home_of : World → ℕ → ℕ → Bool
is_home_of world = is_home_by world.homes.now

-- the world of the rules, by relations, homes and how many blocks there are
abbrev pub world_by : Relations → List ℕ → ℕ → rules.World
world_by r homes blocks = record {
  n = networks r;
  rel = relation r;
  order = λ i. by_keys (relation r i);
  blocks = blocks;
  is_home = is_home_by homes;
}

-- that of what is lent
abbrev pub world_of : World → ℕ → rules.World
world_of world blocks = world_by world.relations.now world.homes.now blocks
