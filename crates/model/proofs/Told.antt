-- What is told, to whom. Assumes nothing.
use Rattle.std.proofs.Common.{◌≡◌, Bool, true, false, cond, ltb, length, Some, None, sym, refl, ap, ◌∙◌}
use Rattle.std.proofs.lemmas.Bool.{cond-true, lt-ltb}
use Rattle.std.proofs.lemmas.Option.{cond_some, none-some}
use Rattle.model.specs.declared.relation.Relation.{Relation}
use Rattle.model.specs.declared.relation.Relation.TheVariants.{Unrelated, Customer, Peer, Provider}
use Rattle.model.specs.Selection.{nothing, local, via}
use Rattle.model.specs.Relations.{related}
use Rattle.model.specs.ExportLaws.{NoFreeRide, BeginsWithTeller, AllToCustomers}
use Rattle.model.specs.Export.{may_tell, in_front, longer, own}
use Rattle.model.specs.Paths.{Path}
use Rattle.model.specs.declared.limits.TheConstants.{MOST_NETWORKS}

may_not : (from to : Relation) → (from ≡ Customer → ⊥) → (to ≡ Customer → ⊥) → may_tell from to ≡ false
may_not Unrelated Unrelated a b = refl
may_not Unrelated Customer a b = refl
may_not Unrelated Peer a b = refl
may_not Unrelated Provider a b = refl
may_not Customer to a b = absurd (a refl)
may_not Peer Unrelated a b = refl
may_not Peer Customer a b = absurd (b refl)
may_not Peer Peer a b = refl
may_not Peer Provider a b = refl
may_not Provider Unrelated a b = refl
may_not Provider Customer a b = absurd (b refl)
may_not Provider Peer a b = refl
may_not Provider Provider a b = refl

pub no_free_ride_lem : NoFreeRide
no_free_ride_lem rel me j k p a b = ap (λ t. cond t (in_front me p) None) (may_not (rel j) (rel k) a b)

either : (s t : Bool) (p q : Path) → cond s (cond t (Some p) None) None ≡ Some q → q ≡ p
either true t p q e = sym (cond_some t p q e).1
either false t p q e = absurd (none-some q e)

pub begins_with_teller_lem : BeginsWithTeller
begins_with_teller_lem rel me k nothing q e = absurd (none-some q e)
begins_with_teller_lem rel me k local q e = sym (cond_some (related (rel k)) (own me) q e).1
begins_with_teller_lem rel me k (via j p) q e = either (may_tell (rel j) (rel k)) (ltb (length p.networks) MOST_NETWORKS) (longer me p) q e

may : (from : Relation) → related from ≡ true → may_tell from Customer ≡ true
may Unrelated e = e
may Customer e = refl
may Peer e = refl
may Provider e = refl

pub all_to_customers_lem : AllToCustomers
all_to_customers_lem =
    record {
      own = λ rel me k e. ap (λ r. cond (related r) (Some (own me)) None) e;
      other = λ rel me j k p e f h.
          ap (λ r. cond (may_tell (rel j) r) (in_front me p) None) e ∙ ap (λ t. cond t (in_front me p) None) (may (rel j) f) ∙
          cond-true (ltb (length p.networks) MOST_NETWORKS) (Some (longer me p)) None (lt-ltb (length p.networks) MOST_NETWORKS h);
    }
