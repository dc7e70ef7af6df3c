-- From walks to the ring that is told. Assumes nothing.
use Rattle.std.proofs.Common.{◌≡◌, ℕ, ◌+◌, ◌<◌, ◌≤◌, ◌⊎◌, None, Some, Option, List, [], ◌∷◌, ◌++◌, length, sym, refl, ap, ◌∙◌, subst, inl, inr, ⊎_elim, append_assoc, arith}
use Rattle.std.specs.List.{AllByRecursion}
use Rattle.std.proofs.lemmas.List.{append-nil}
use Rattle.std.proofs.ByRecursion.{All-append}
use Rattle.std.proofs.lemmas.Bool.{cases_lt}
use Rattle.model.specs.Relations.{Between, Within}
use Rattle.model.specs.Cycles.{Chain, Cycle, NoCycle, FromLowest, Smaller, Earlier, First}
use Rattle.cycles.specs.Walk.{Climb, Fewest, Shortest}
use Rattle.cycles.specs.Trace.{Least, Next, Traced}
use Rattle.model.specs.declared.relation.Relation.TheVariants.{Provider}
use Rattle.model.proofs.Chains.{among, chain_join}

-- a list to which x was added, and then more
pub added_way : (old mid new way : List ℕ) (x : ℕ) → mid ≡ old ++ x ∷ [] → new ≡ mid ++ way → new ≡ old ++ x ∷ way
added_way old mid new way x e f = f ∙ ap (λ l. l ++ way) e ∙ append_assoc old (x ∷ []) way

module _ (rel : Between) (low : ℕ) where
  -- one step more at the front
  climb_front : (k s v w : ℕ) → rel s v ≡ Provider → low ≤ v → Climb rel low k v w → Climb rel low (k + 1) s w
  climb_front k s v w e h c = record { over = v ∷ c.over; chain = (e, c.chain); above = (h, c.above); ends = c.ends; long = omega (arith, c.long) }

  -- the first step taken away
  pub climb_first : (k s w : ℕ) → 0 < k → Climb rel low (k + 1) s w → (v : ℕ) × (rel s v ≡ Provider) × (low ≤ v) × Climb rel low k v w
  climb_first k s w h c = at c.over c.chain c.above c.long
    where
      at : (xs : List ℕ) → Chain rel s xs w → AllByRecursion (λ y. low ≤ y) xs → length xs + 1 ≡ k + 1 → (v : ℕ) × (rel s v ≡ Provider) × (low ≤ v) × Climb rel low k v w
      at [] d a e = let z : ⊥ = omega arith in elim z [ ]
      at (x ∷ xs) d a e = (x, d.0, a.0, record { over = xs; chain = d.1; above = a.1; ends = c.ends; long = omega arith })

  -- where not as many steps lead on as are left, no walk of that many goes on there
  pub goes_not : (at left v : ℕ) (o : Option ℕ) → Shortest rel low (left + 1) at low → rel at v ≡ Provider → low ≤ v → Fewest rel low o v low → (o ≡ Some left → ⊥) → Climb rel low left v low → ⊥
  goes_not at left v None short up high fewest other c = fewest.none refl left c
  goes_not at left v (Some k) short up high fewest other c =
      let on = fewest.some k refl in
      let over = short.least (k + 1) (climb_front k at v low up high on.walk) in
      let is : k ≡ left = omega (arith, on.least left c, over) in other (ap Some is)

  least_one : (at left : ℕ) → Shortest rel low left at low → left ≤ 1 → Least rel low at left []
  least_one at left short h =
      let c = short.walk in
      record {
        chain = straight c.over (omega (arith, c.long)) c.chain;
        above = tt;
        long = omega (arith, c.long);
        least = not_smaller;
      }
    where
      straight : (xs : List ℕ) → length xs ≤ 0 → Chain rel at xs low → rel at low ≡ Provider
      straight [] k d = d
      straight (x ∷ xs) k d = let z : ⊥ = omega arith in elim z [ ]

      not_smaller : (other : List ℕ) → Chain rel at other low → AllByRecursion (λ y. low ≤ y) other → length other ≡ 0 → Smaller other [] → ⊥
      not_smaller [] d a e s = s
      not_smaller (x ∷ xs) d a e s = s

  least_more : (at left next all : ℕ) (way : List ℕ) → all ≡ left + 1 → Next rel low at left next → Least rel low next left way → Least rel low at all (next ∷ way)
  least_more at left next all way is n l =
      record { chain = (n.up, l.chain); above = (n.high, l.above); long = omega (arith, l.long); least = not_smaller }
    where
      not_smaller : (other : List ℕ) → Chain rel at other low → AllByRecursion (λ y. low ≤ y) other → length other ≡ length (next ∷ way) → Smaller other (next ∷ way) → ⊥
      not_smaller [] d a e s = s
      not_smaller (x ∷ xs) d a e s =
          let rest : length xs ≡ length way = omega arith in
          ⊎_elim
          (λ lt. n.lowest x lt a.0 d.0 (record { over = xs; chain = d.1; above = a.1; ends = omega arith; long = omega (arith, l.long) }))
          (λ p. l.least xs (subst (λ k. Chain rel k xs low) p.0 d.1) a.1 rest p.1)
          s

  pub traced_none : (at left : ℕ) (ring : List ℕ) → Shortest rel low left at low → left ≤ 1 → Traced rel low at left ring ring
  traced_none at left ring short h = record { way = []; added = sym (append-nil ring); least = least_one at left short h }

  pub traced_more : (at left next all : ℕ) (old mid new : List ℕ) → all ≡ left + 1 → Next rel low at left next → mid ≡ old ++ next ∷ [] → Traced rel low next left mid new → Traced rel low at all old new
  traced_more at left next all old mid new is n e t =
      record { way = next ∷ t.way; added = added_way old mid new t.way next e t.added; least = least_more at left next all t.way is n t.least }

module _ (rel : Between) where
  -- a chain cut at its lowest member, which is below b
  record Cut (b i j : ℕ) : Type 0 where
    member : ℕ
    before : List ℕ
    after : List ℕ
    below : member < b
    leads : Chain rel i before member
    goes : Chain rel member after j
    over : AllByRecursion (λ y. member ≤ y) before
    over₂ : AllByRecursion (λ y. member ≤ y) after

  longer : (b b₂ i y j : ℕ) → rel i y ≡ Provider → b₂ ≤ b → b₂ ≤ y → Cut b₂ y j → Cut b i j
  longer b b₂ i y j e h k c =
      record {
        member = c.member;
        before = y ∷ c.before;
        after = c.after;
        below = omega (arith, c.below);
        leads = (e, c.leads);
        goes = c.goes;
        over = (omega (arith, c.below), c.over);
        over₂ = c.over₂;
      }

  cut : (xs : List ℕ) (b i j : ℕ) → Chain rel i xs j → AllByRecursion (λ y. b ≤ y) xs ⊎ Cut b i j
  cut [] b i j c = inl tt
  cut (y ∷ ys) b i j c =
      ⊎_elim
      (λ lt.
      ⊎_elim
      (λ all. inr (record { member = y; before = []; after = ys; below = lt; leads = c.0; goes = c.1; over = tt; over₂ = all }))
      (λ d. inr (longer b y i y j c.0 (omega arith) (omega arith) d))
      (cut ys y y j c.1))
      (λ le.
      ⊎_elim
      (λ all. inl (le, all))
      (λ d. inr (longer b b i y j c.0 (omega arith) le d))
      (cut ys b y j c.1))
      (cases_lt y b)

  -- each cycle can be written from its lowest member
  lowest : (x : ℕ) (xs : List ℕ) → Chain rel x xs x → (l : ℕ) × (k : ℕ) × Climb rel l k l l
  lowest x xs c =
      ⊎_elim
      (λ all. (x, length xs + 1, record { over = xs; chain = c; above = all; ends = omega arith; long = refl }))
      (λ d. (
        d.member,
        length (d.after ++ x ∷ d.before) + 1,
        record {
          over = d.after ++ x ∷ d.before;
          chain = chain_join rel d.after d.before d.member x d.member d.goes d.leads;
          above = All-append (λ y. d.member ≤ y) d.after (x ∷ d.before) d.over₂ (omega (arith, d.below), d.over);
          ends = omega arith;
          long = refl;
        },
      ))
      (cut xs x x x c)

  first_of : (i j : ℕ) (xs : List ℕ) → Chain rel i xs j → (y : ℕ) × (rel i y ≡ Provider)
  first_of i j [] c = (j, c)
  first_of i j (x ∷ xs) c = (x, c.0)

  -- no cycle has its lowest member below `low`, nor at it where the walk does not come back
  pub none_more : (low : ℕ) → ((m : ℕ) → Climb rel low m low low → ⊥) → ((l k : ℕ) → l < low → Climb rel l k l l → ⊥) → (l k : ℕ) → l < low + 1 → Climb rel l k l l → ⊥
  none_more low none_back none l k h c =
      ⊎_elim
      (λ lt. none l k lt c)
      (λ le. let is : l ≡ low = omega arith in none_back k (subst (λ z. Climb rel z k z z) is c))
      (cases_lt l low)

  pub no_cycle : (n : ℕ) → Within n rel → ((l k : ℕ) → l < n → Climb rel l k l l → ⊥) → NoCycle rel
  no_cycle n w none [] c = c
  no_cycle n w none (x ∷ xs) c =
      let r = lowest x xs c in
      let f = first_of r.0 r.0 r.2.over r.2.chain in
      none r.0 r.1 (among rel n r.0 f.0 w f.1) r.2

  pub is_first : (low k : ℕ) (way : List ℕ) → ((l m : ℕ) → l < low → Climb rel l m l l → ⊥) → Shortest rel low k low low → Least rel low low k way → First rel (low ∷ way)
  is_first low k way none short l = record { cycle = l.chain; from_lowest = l.above; first = not_earlier }
    where
      not_earlier : (other : List ℕ) → Cycle rel other → FromLowest other → Earlier other (low ∷ way) → ⊥
      not_earlier [] c f e = e
      not_earlier (y ∷ ys) c f e =
          let climb : Climb rel y (length ys + 1) y y = record { over = ys; chain = c; above = f; ends = omega arith; long = refl } in
          ⊎_elim
          (λ lt. none y (length ys + 1) lt climb)
          (λ p.
          ⊎_elim
          (λ lt. omega (arith, lt, l.long, short.least (length ys + 1) (subst (λ z. Climb rel z (length ys + 1) z z) p.0 climb)))
          (λ q. l.least ys (subst (λ z. Chain rel z ys z) p.0 c) (subst (λ z. AllByRecursion (λ u. z ≤ u) ys) p.0 f) q.0 q.1)
          p.1)
          e
