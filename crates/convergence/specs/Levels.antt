-- That our rules have the one law of channels. Assumes nothing.
use Rattle.std.specs.Prelude.{ℕ, ◌*◌, ◌<◌}
use Rattle.model.specs.Selection.{Choice, Order, choose, Said}
use Rattle.model.specs.Export.{tells}
use Rattle.model.specs.World.{World, RankFirst, Sound, rel_at}
use Rattle.model.specs.Ports.{ports}
use Rattle.convergence.specs.Channels.{System, Lawful}
use Rattle.model.specs.Levels.{Heights, level}

-- what the networks select, each in an order of its own, and tell of block b
abbrev pub system : (ℕ → Order) → World → (ℕ → ℕ) → ℕ → System Said Choice
system order w height b = record {
  n = w.n;
  most = 2 * w.n;
  level = level w height;
  select = λ up i says. choose (order i) (rel_at w i) up i (w.is_home b i) says (ports w.n);
  tell = λ up i k c. tells (rel_at w i) up i k c;
}

-- in whatever order each selects that compares the kind first, strict or not, what a network tells of a block depends
-- only on what came over channels of lower level
abbrev pub LowerDecides : Type 0
LowerDecides =
    (order : ℕ → Order) (w : World) (height : ℕ → ℕ) (b : ℕ) → Sound w → Heights w height →
    ((i : ℕ) → i < w.n → RankFirst (rel_at w i) (order i)) → Lawful (system order w height b)
