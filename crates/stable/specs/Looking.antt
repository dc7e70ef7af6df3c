-- Networks that look all at once, where a table holds what each shows: what it goes by, with itself in front. Assumes
-- nothing.
use Rattle.std.specs.Prelude.{◌≡◌, ℕ, ◌<◌, Bool, false, ◌&&◌, List, [], ◌∷◌, Some, None}
use Rattle.model.specs.Export.{in_front, may_tell, own}
use Rattle.model.specs.Ports.{Port, far, back, ports}
use Rattle.model.specs.Relations.{related}
use Rattle.model.specs.Selection.{Choice, Said, nothing, local, via, choose}
use Rattle.model.specs.Stable.{Links, looks}
use Rattle.model.specs.World.{World, rel_at}
use Rattle.model.specs.declared.relation.Relation.{Relation}

-- what network i shows of what it goes by; where that is as many networks as there may be, it tells and shows nothing
abbrev pub shown : ℕ → Choice → Said
shown i nothing = None
shown i local = Some (own i)
shown i (via j p) = in_front i p

-- may a network tell at port k a path over these, itself in front, where rel says what its neighbours are to it: its
-- own home to all, another path by what the next network is to it
abbrev pub shows_path : (Port → Relation) → Port → List ℕ → Bool
shows_path rel k [] = false
shows_path rel k (me ∷ []) = related (rel k)
shows_path rel k (me ∷ next ∷ path) = may_tell (rel next) (rel k)

-- may it tell there what it shows
abbrev pub shows : (Port → Relation) → Port → Said → Bool
shows rel k None = false
shows rel k (Some p) = shows_path rel k p.networks

-- what each network shows
abbrev pub Showing : Type 0
Showing = ℕ → Said

-- does the neighbour at port j tell network i what it shows
abbrev pub tellers : World → Links → Showing → ℕ → Port → Bool
tellers w links rows i j = links (far i j) (back i j) && shows (rel_at w (far i j)) (back i j) (rows (far i j))

-- what network i goes by for block b when it looks at what the others show
abbrev pub view : World → Links → ℕ → Showing → ℕ → Choice
view w links b rows i =
    choose (w.order i) (rel_at w i) (tellers w links rows i) i (w.is_home b i) (λ j. rows (far i j)) (ports w.n)

-- each network shows what it goes by after k looks
abbrev pub Shows : World → Links → ℕ → ℕ → Showing → Type 0
Shows w links b k rows = (i : ℕ) → i < w.n → rows i ≡ shown i (looks k w links b i)

-- of n networks each shows the same
abbrev pub Same : ℕ → Showing → Showing → Type 0
Same n rows rows' = (i : ℕ) → i < n → rows i ≡ rows' i

-- of n networks those show the same that are not in a set
abbrev pub SameOutside : ℕ → (ℕ → Bool) → Showing → Showing → Type 0
SameOutside n within rows rows' = (i : ℕ) → i < n → within i ≡ false → rows i ≡ rows' i

-- none of the networks of a set is related to network i
abbrev pub RelatedToNone : World → (ℕ → Bool) → ℕ → Type 0
RelatedToNone w changed i = (j : ℕ) → j < w.n → (changed j && related (w.rel i j)) ≡ false

-- network i is not in a set, and none of the set is related to it
abbrev pub Unaffected : World → (ℕ → Bool) → ℕ → Type 0
Unaffected w changed i = (changed i ≡ false) × RelatedToNone w changed i

-- a network that is not in a set shows what it goes by when it looks
abbrev pub UpToDate : World → Links → ℕ → (ℕ → Bool) → Showing → Type 0
UpToDate w links b within rows = (i : ℕ) → i < w.n → within i ≡ false → rows i ≡ shown i (view w links b rows i)
