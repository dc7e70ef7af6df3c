-- What a row says of what code answers in one of the cases. Assumes nothing.
use Rattle.std.specs.Prelude.{◌≡◌, ℕ, true, ◌<◌, ◌≤◌, List, Ok, Err, vec_items, Result, slice_index_or, ◌==◌}
use Rattle.model.specs.Selection.{Choice, nothing}
use Rattle.model.specs.Stable.{stable}
use Rattle.relations.specs.Sound.{networks as networks_of, relation}
use Rattle.relations.specs.declared.sound.Relations.{Relations}
use Rattle.blocks.specs.Ranges.{block_at}
use Rattle.ties.specs.Encoding.{encoding}
use Rattle.ties.specs.Outcome.{Read}
use Rattle.ties.specs.Words.{words}
use Rattle.ties.specs.declared.refusal.Refusal.{Refusal}
use Rattle.ties.specs.declared.refusal.Refusal.TheVariants.{Fault, Cycle, Memory}
use Rattle.selection.specs.Worlds.{is_home_of}
use Rattle.selection.specs.declared.world.World.{World}
use Rattle.stable.specs.Linked.{up as up_of}
use Rattle.stable.specs.Settling.{Settled, goes_by, has_way}
use Rattle.stable.specs.Ways.{Leads}
use Rattle.stable.specs.declared.linked.LinkSet.{LinkSet}
use Rattle.stable.specs.declared.routing.Routing.{Routing}
use Rattle.cases.specs.Rows.{Cyclic, in_block}
use Rattle.cases.specs.Settings.{Setting, tied, up, world as world_of}

-- ties in which there is a cycle of customers, their file, and what is told of it
pub record Written : Type 0 where
  pub cyclic : Cyclic
  pub file : List ℕ
  pub told : List ℕ

pub data Row : Type 0 where
  -- what each network goes by in what `settle` answers
  settles : Setting → List Choice → Row
  -- a network goes by nothing, though links that are up lead home over these
  unpaid : Setting → ℕ → List ℕ → Row
  -- a file of ties is refused
  refused : Written → Row
  -- blocks from the first of these addresses to the last, among which addresses are found as in the cases
  finds : List ℕ → List ℕ → Row

-- what networks share and links that say the same, where that is the home of a block
pub record Same (s : Setting) (world : World) (links : LinkSet) (b : ℕ) : Type 0 where
  pub networks : networks_of world.relations.now ≡ s.networks
  pub related : (i j : ℕ) → relation world.relations.now i j ≡ tied s.ties i j
  pub homes : (i : ℕ) → is_home_of world b i ≡ (i == s.home)
  pub linked : (i j : ℕ) → up_of links i j ≡ up s i j

-- each network goes by its choice of the list in what `settle` answers
abbrev pub Settles : Setting → List Choice → Type 0
Settles s choices =
    (world : World) (links : LinkSet) (b : ℕ) (x : Routing) → Same s world links b → Settled world links b x →
    (i : ℕ) → i < s.networks → goes_by x i ≡ slice_index_or choices i nothing

-- the network goes by nothing, though a way leads home; so it does in what `settle` answers
pub record Unpaid (s : Setting) (i : ℕ) (over : List ℕ) : Type 0 where
  pub chosen : stable (world_of s) (up s) 0 i ≡ nothing
  pub way : Leads s.networks (up s) i over s.home
  pub answered :
      (world : World) (links : LinkSet) (b : ℕ) (x : Routing) → Same s world links b → Settled world links b x →
      (goes_by x i ≡ nothing) × (has_way x i ≡ true)

-- the answer to a file is the cycle, told so, or that memory could not be had
abbrev pub Tells : Written → Result Relations Refusal → Type 0
Tells c (Ok r) = ⊥
Tells c (Err (Fault f)) = ⊥
Tells c (Err (Cycle ring)) = (vec_items ring ≡ c.cyclic.cycle) × (words (Cycle ring) ≡ c.told)
Tells c (Err Memory) = Unit {0}

-- the file is that of the ties, and who reads it, and allows that many networks, is told the cycle
pub record Refused (c : Written) : Type 0 where
  pub encoded : encoding c.cyclic.networks (tied c.cyclic.ties) ≡ c.file
  pub answered :
      (most : ℕ) (answer : Result Relations Refusal) → c.cyclic.networks ≤ most → Read most c.file answer →
      Tells c answer

-- an address is in one of these blocks where it is in that of the cases
abbrev pub Finds : List ℕ → List ℕ → Type 0
Finds firsts lasts = (address : ℕ) → block_at firsts lasts address ≡ in_block address

abbrev pub Holds : Row → Type 0
Holds (settles s choices) = Settles s choices
Holds (unpaid s i over) = Unpaid s i over
Holds (refused c) = Refused c
Holds (finds firsts lasts) = Finds firsts lasts
