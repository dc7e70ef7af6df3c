-- One network: what it holds, and what it exports. Assumes nothing.
use Rattle.std.specs.Prelude.{ℕ, Bool, false, cond, not, ◌&&◌, List, [], ◌∷◌, None, ◌==◌, nat_lt}
use Rattle.model.specs.Export.{tells, same_saying}
use Rattle.model.specs.Lists.{gather}
use Rattle.model.specs.Ports.{Port, ports}
use Rattle.model.specs.Selection.{Choice, Said, choose}
use Rattle.model.specs.World.{World, rel_at}

-- an update: what one network tells another of a block
pub record Update : Type 0 where
  pub block : ℕ
  pub says : Said

-- which links are up, and by block and port what was received and advertised last since the link came up
pub record Local : Type 0 where
  pub up : Port → Bool
  pub received : ℕ → Port → Said
  pub advertised : ℕ → Port → Said

-- at first every link is down, and nothing was received or advertised
abbrev pub silent : Local
silent = record { up = λ k. false; received = λ b k. None; advertised = λ b k. None }

-- what network i goes by for block b
abbrev pub choice : World → ℕ → Local → ℕ → Choice
choice w i s b = choose (w.order i) (rel_at w i) s.up i (w.is_home b i) (s.received b) (ports w.n)

-- what network i tells at port k of block b, as it now goes
abbrev pub tells_now : World → ℕ → Local → ℕ → Port → Said
tells_now w i s b k = tells (rel_at w i) s.up i k (choice w i s b)

-- what is due when a network exports: of these blocks each to every port whose link is up
abbrev pub due : World → (ℕ → Bool) → Local → ℕ → Port → Bool
due w these s b k = these b && nat_lt b w.blocks && nat_lt k (ports w.n) && s.up k

-- network i selects anew for these blocks and exports what is due: what it then has advertised
abbrev pub retold : World → ℕ → (ℕ → Bool) → Local → Local
retold w i these s = record {
  up = s.up;
  received = s.received;
  advertised = λ b k. cond (due w these s b k) (tells_now w i s b k) (s.advertised b k);
}

-- an update of block b goes to port k: it is due, and says something else than what was told last
abbrev pub sends : World → ℕ → (ℕ → Bool) → Local → ℕ → Port → Bool
sends w i these s b k = due w these s b k && not (same_saying (tells_now w i s b k) (s.advertised b k))

-- what network i then sends to port k, block by block
abbrev pub sent : World → ℕ → (ℕ → Bool) → Local → Port → List Update
sent w i these s k =
    gather (λ b. cond (sends w i these s b k) (record { block = b; says = tells_now w i s b k } ∷ []) []) w.blocks

-- all that network i then sends, in its order: block by block, and ports in the order of their numbers
abbrev pub outbox : World → ℕ → (ℕ → Bool) → Local → List (Port × Update)
outbox w i these s =
    gather
    (λ b. gather (λ k. cond (sends w i these s b k) ((k, record { block = b; says = tells_now w i s b k }) ∷ []) [])
    (ports w.n)) w.blocks

-- one value put at one place
abbrev pub at : {X : Type 0} → ℕ → X → (ℕ → X) → ℕ → X
at k x f j = cond (j == k) x (f j)
