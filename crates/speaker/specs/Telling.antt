-- The bytes of what a network tells of a block, to those who are to be told. Assumes nothing.
use Rattle.std.specs.Prelude.{ℕ, Bool, false, cond, List, [], map, slice_index_or}
use Rattle.selection.specs.Sets.{member}
use Rattle.selection.specs.declared.set.NetworkSet.{NetworkSet}
use Rattle.model.specs.Selection.{Said}
use Rattle.model.specs.Lists.{gather}
use Rattle.messages.specs.Writing.{update_written}

-- to those of n networks who are to be told, in the order of their numbers
abbrev pub telling : ℕ → (ℕ → Bool) → (ℕ → Said) → ℕ → List ℕ
telling block whom says n = gather (λ k. cond (whom k) (update_written k block (says k)) []) n

-- by block, who is to be told
abbrev pub whom : List NetworkSet → ℕ → ℕ → Bool
whom audiences b = slice_index_or (map member audiences) b (λ k. false)

-- of each of so many blocks
abbrev pub tellings_of : List NetworkSet → (ℕ → ℕ → Said) → ℕ → ℕ → List ℕ
tellings_of audiences says n blocks = gather (λ b. telling b (whom audiences b) (says b) n) blocks
