-- The words in which it is told what the networks go by.
use Rattle.std.specs.Prelude.{ℕ, cond, List, [], ◌++◌, nat_lt, slice_index}
use Rattle.blocks.specs.Shown.{firsts_of, homes_of, lasts_of}
use Rattle.model.specs.Local.{choice}
use Rattle.model.specs.Lists.{gather}
use Rattle.routes.specs.Lines.{block_words, route_words}
use Rattle.routes.specs.declared.lines.BlockLine.{BlockLine}
use Rattle.simulation.specs.Simulated.{blocks_of, state_of, world_of}
use Rattle.simulation.specs.declared.simulation.Simulation.{Simulation}

-- what is told of a block: its number, its addresses and its home
abbrev pub line_of : Simulation → ℕ → BlockLine
line_of x b = record {
  block = b;
  first = record { 0 = slice_index (firsts_of (blocks_of x)) b };
  last = record { 0 = slice_index (lasts_of (blocks_of x)) b };
  home = slice_index (homes_of (blocks_of x)) b;
}

-- the line of network i
abbrev pub line_at : Simulation → ℕ → ℕ → List ℕ
line_at x b i = route_words i (choice (world_of x) i ((state_of x).locals i) b)

-- a line for the block, and one for each network; nothing of a block that there is not
abbrev pub show_words : Simulation → ℕ → List ℕ
show_words x b =
    cond (nat_lt b (world_of x).blocks) (block_words (line_of x b) ++ gather (line_at x b) (world_of x).n) []
