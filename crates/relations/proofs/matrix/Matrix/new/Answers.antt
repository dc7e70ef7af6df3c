-- The new table holds `Unrelated` in every place, however many rows it has: that is left to the search.
use Rattle.std.proofs.Common.{◌≡◌, ℕ, ap, ◌∙◌, replicate}
use Rattle.std.proofs.lemmas.List.Elements.{same_from_all_zip}
use Rattle.relations.specs.Between.{between}
use Rattle.model.specs.declared.relation.Relation.TheVariants.{Unrelated}
use Rattle.relations.proofs.Tables.{between_none, none_hold}
use Rattle.relations.proofs.matrix.Matrix.new.Goals as goal
use Rattle.relations.proofs.matrix.Matrix.new.Goals.{In_ok-rows}

blank : (c : In_ok-rows) → (n : ℕ) × (c.in_ok-rows.rows.items ≡ replicate n (replicate 64 Unrelated))
blank c = (_, c.in_ok-rows.ensures.items_if_clones_equal (λ y z. same_from_all_zip _ _ _ z.whole (λ a b h. h)))

pub invariant_of-result-clause-wide : goal.invariant_of-result-clause-wide
invariant_of-result-clause-wide c = (none_hold _ _ (blank (goal.at.invariant_of-result-clause-wide c).In_ok-rows).1).0

pub invariant_of-result-clause-mutual : goal.invariant_of-result-clause-mutual
invariant_of-result-clause-mutual c = (none_hold _ _ (blank (goal.at.invariant_of-result-clause-mutual c).In_ok-rows).1).1

pub invariant_of-result-clause-apart : goal.invariant_of-result-clause-apart
invariant_of-result-clause-apart c = (none_hold _ _ (blank (goal.at.invariant_of-result-clause-apart c).In_ok-rows).1).2

pub returns-clause-none : goal.returns-clause-none
returns-clause-none c i j = let made = blank (goal.at.returns-clause-none c).In_ok-rows in ap (λ l. between l i j) made.1 ∙ between_none made.0 64 i j
