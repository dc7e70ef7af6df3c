-- What is found by looking: the stable routing, and no other is stable. Assumes nothing.
use Rattle.std.specs.Prelude.{◌≡◌, ℕ, ◌<◌, ◌≤◌, Bool, cond, List, [], ◌∷◌, Some, None, MatchBool, nat_lt}
use Rattle.model.specs.Paths.{path_over}
use Rattle.model.specs.Selection.{Choice, Said, nothing, local, via}
use Rattle.model.specs.Stable.{Stable, stable}
use Rattle.model.specs.Stable as Stable
use Rattle.relations.specs.Sound.{networks}
use Rattle.selection.specs.Sets.{member}
use Rattle.selection.specs.Worlds.{is_home_of}
use Rattle.selection.specs.declared.world.World.{World}
use Rattle.stable.specs.Linked.{up}
use Rattle.stable.specs.Networks.{count_in, is_home_in, rules_of, showing}
use Rattle.stable.specs.Ways.{WayHome}
use Rattle.stable.specs.declared.linked.LinkSet.{LinkSet}
use Rattle.stable.specs.declared.routing.Routing.{Routing}

-- a path by its first network; of no network, nothing
abbrev pub by_first : List ℕ → Choice
by_first [] = nothing
by_first (next ∷ path) = via next (path_over (next ∷ path))

-- what a network that is no home goes by, which shows a path over these: what stands behind itself
abbrev pub behind_first : List ℕ → Choice
behind_first [] = nothing
behind_first (me ∷ path) = by_first path

-- what a network that is no home goes by, which shows this
abbrev pub behind : Said → Choice
behind None = nothing
behind (Some p) = behind_first p.networks

-- what a network goes by, a home or not, which shows this
abbrev pub gone_by : Bool → Said → Choice
gone_by own says = cond own local (behind says)

-- what a network goes by
unfoldable pub goes_by : Routing → ℕ → Choice
goes_by x i =
    cond (nat_lt i (count_in x.networks)) (gone_by (is_home_in x.networks i) (showing x.shown i)) nothing

-- whether it was found that some way leads from a network to a home
abbrev pub has_way : Routing → ℕ → Bool
has_way x i = member x.reaching i

-- some way of links that are up leads from network i to a home of block b
abbrev pub LeadsHome : World → LinkSet → ℕ → ℕ → Type 0
LeadsHome world links b i = WayHome (networks world.relations.now) (up links) (is_home_of world b) i

-- that the test says whether some way leads from network i to a home of block b
abbrev pub Known : World → LinkSet → ℕ → ℕ → Bool → Type 0
Known world links b i test = MatchBool test (LeadsHome world links b i) (LeadsHome world links b i → ⊥)

-- for block b every network goes by the stable routing, the only one that is stable; and it is known from where a way
-- leads to a home
pub record Settled (world : World) (links : LinkSet) (b : ℕ) (x : Routing) : Type 0 where
  pub chosen : (i : ℕ) → i < networks world.relations.now → goes_by x i ≡ stable (rules_of world) (up links) b i
  pub only :
      (a : Stable.Routing) → Stable (rules_of world) (up links) b a →
      (i : ℕ) → i < networks world.relations.now → goes_by x i ≡ a i
  pub past : (i : ℕ) → networks world.relations.now ≤ i → goes_by x i ≡ nothing
  pub ways : (i : ℕ) → i < networks world.relations.now → Known world links b i (has_way x i)
