-- The walk from each provider tells whether it goes on there, and it does from one of them.
use Rattle.std.proofs.Common.{◌≡◌, ℕ, ◌+◌, ◌<◌, ◌≤◌, true, false, ◌⊎◌, MatchOption, IsSome, None, Some, Option, nat_eq, ap, ◌∙◌, refl, ⊎_elim, rules, tests}
use Rattle.std.proofs.lemmas.Bool.{eq-eqb, eqb-true}
use Rattle.std.proofs.lemmas.Iterator.{first_from_Range}
use Rattle.std.specs.Option.{option_eq}
use Rattle.std.proofs.lemmas.Option.{MatchOption-at_some}
use Rattle.model.specs.Relations.{Between, provider}
use Rattle.relations.specs.Table.{count, rel}
use Rattle.cycles.specs.Walk.{Climb, Fewest, Shortest}
use Rattle.model.specs.declared.relation.Relation.TheVariants.{Provider}
use Rattle.model.proofs.Chains.{is_provider, not_provider}
use Rattle.relations.proofs.Tables.{within}
use Rattle.cycles.proofs.Walks.{in_table}
use Rattle.cycles.proofs.Rings.{climb_first, goes_not}
use Rattle.cycles.proofs.walk.Slope.next_up.Goals as goal
use Rattle.cycles.proofs.walk.Slope.next_up.Goals.{After-find}

-- an answer is compared with a number
is_some : (o : Option ℕ) (k : ℕ) → option_eq nat_eq o (Some k) ≡ true → o ≡ Some k
is_some None k e = absurd (cc)
is_some (Some v) k e = ap Some (eqb-true v k e)

not_some : (o : Option ℕ) (k : ℕ) → (option_eq nat_eq o (Some k) ≡ true → ⊥) → o ≡ Some k → ⊥
not_some o k other is = other (ap (λ a. option_eq nat_eq a (Some k)) is ∙ eq-eqb k k refl)

-- what the test of a network v tells
module _ (rel : Between) (low at left v : ℕ) where
  abbrev Yes : Type 0
  Yes = (o : Option ℕ) × (provider (rel at v) ≡ true) × Fewest rel low o v low × (option_eq nat_eq o (Some left) ≡ true)

  abbrev Not : Type 0
  Not = (provider (rel at v) ≡ false) ⊎ ((o : Option ℕ) × Fewest rel low o v low × (option_eq nat_eq o (Some left) ≡ true → ⊥))

  leads_not : Shortest rel low (left + 1) at low → Not → low ≤ v → rel at v ≡ Provider → Climb rel low left v low → ⊥
  leads_not short other high up walk =
      ⊎_elim
      (λ e. not_provider _ e up)
      (λ w. goes_not _ _ _ _ _ _ short up high w.1 (not_some _ _ w.2) walk)
      other

some_found : (o : Option ℕ) (P : Type 0) (Q : ℕ → Type 0) → (P → ⊥) → MatchOption o P Q → IsSome o
some_found None P Q not_none m = absurd (not_none m)
some_found (Some v) P Q not_none m = refl

-- what the search tells, whether it has found a network or not
found : (c : After-find) → let low : ℕ = c.args.self.low in let yes : ℕ → Type 0 = Yes (rel c.args.self.matrix.now) low c.args.at c.args.left in let no : ℕ → Type 0 = Not (rel c.args.self.matrix.now) low c.args.at c.args.left in MatchOption c.find.result ((v : ℕ) → low ≤ v → v < 64 → no v) (λ i. (low ≤ i) × (i < 64) × yes i × ((v : ℕ) → low ≤ v → v < i → no v))
found c = first_from_Range _ _ _ _ _ _ c.find.ensures.ran (λ x q k. search (rules, tests)) (λ x q k. (search rules, search (rules, tests)))

pub unwrap-requires : goal.unwrap-requires
unwrap-requires c =
    let t = c.args.self.matrix.now in
    some_found _ _ _
    (λ none.
    let r = climb_first (rel t) c.args.self.low c.args.left c.args.at c.args.self.low c.requires.some.0 c.requires.short.walk in
    leads_not _ _ _ _ r.0 c.requires.short (none r.0 r.2 (in_table (rel t) (count t) c.args.at r.0 t.«mutual» (within t) t.few r.1)) r.2 r.1 r.3)
    (found (goal.at.unwrap-requires c).After-find)

pub returns : goal.returns
returns c =
    let first = MatchOption-at_some _ _ _ c.unwrap.ensures (found (goal.at.returns c).After-find) in
    record {
      up = is_provider _ first.2.1;
      high = first.0;
      on = first.2.2.some _ (is_some _ _ first.2.3);
      lowest = λ u less high. leads_not _ _ _ _ u c.requires.short (first.3 u high less) high;
    }
