-- How much is left in flight, as a number that falls with every move. Assumes nothing.
use Rattle.std.specs.Prelude.{ℕ, zero, suc, ◌+◌, ◌-◌, ◌*◌, ◌^◌, ◌<◌, sum_by}
use Rattle.model.specs.Ports.{ports}
use Rattle.model.specs.World.{World, Sound}
use Rattle.model.specs.Run.{Item, update, packet, State, Move, Reach}
use Rattle.model.specs.Packets.{Lookup}
use Rattle.model.specs.Levels.{Heights, level}

-- f 0 + .. + f (n - 1)
abbrev pub sum : ℕ → (ℕ → ℕ) → ℕ
sum zero f = 0
sum (suc n) f = sum n f + f n

-- of n networks, what an item weighs over a channel of a level: an update more than n updates of higher levels, and a
-- packet more than the same packet one hop on
abbrev pub weight : ℕ → ℕ → Item → ℕ
weight n level (update u) = (n + 1) ^ (2 * n - level)
weight n level (packet p) = p.hops + 1

-- over all channels, what is in flight
abbrev pub left : World → (ℕ → ℕ) → State → ℕ
left w height s = sum w.n (λ i. sum (ports w.n) (λ k. sum_by (weight w.n (level w height i k)) (s.flight i k)))

-- it falls with every move of every run
abbrev pub Falls : Type 0
Falls =
    (w : World) (height : ℕ → ℕ) (at : Lookup) → Sound w → Heights w height → (s t : State) → Reach w at s →
    Move w at s t → left w height t < left w height s
