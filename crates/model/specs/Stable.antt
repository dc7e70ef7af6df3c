-- The stable routing, defined from ties, links and homes alone. Assumes nothing.
use Rattle.std.specs.Prelude.{◌≡◌, ℕ, zero, suc, ◌+◌, ◌*◌, ◌<◌, Bool}
use Rattle.model.specs.Export.{tells}
use Rattle.model.specs.Ports.{Port, far, back, ports}
use Rattle.model.specs.Selection.{Choice, nothing, choose}
use Rattle.model.specs.World.{World, rel_at}

-- links i j: the link at port j of network i is up, as i has it
abbrev pub Links : Type 0
Links = ℕ → Port → Bool

-- what each network goes by for one block
abbrev pub Routing : Type 0
Routing = ℕ → Choice

-- what network i would go by if it looked at what the others would tell it as they now go
abbrev pub look : World → Links → ℕ → Routing → Routing
look w links b a i =
    choose (w.order i) (rel_at w i) (links i) i (w.is_home b i)
    (λ j. tells (rel_at w (far i j)) (links (far i j)) (far i j) (back i j) (a (far i j))) (ports w.n)

-- all go by nothing; then all look, all at once, k times
abbrev pub looks : ℕ → World → Links → ℕ → Routing
looks zero w links b i = nothing
looks (suc k) w links b i = look w links b (looks k w links b) i

-- the villages say: the arrangement
abbrev pub stable : World → Links → ℕ → Routing
stable w links b = looks (2 * w.n + 1) w links b

-- each network goes by what the others tell
abbrev pub Stable : World → Links → ℕ → Routing → Type 0
Stable w links b a = (i : ℕ) → i < w.n → a i ≡ look w links b a i
