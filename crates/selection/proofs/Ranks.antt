-- What the customers told decides whether one of them is chosen, and which. Assumes nothing.
use Rattle.std.proofs.Common.{◌≡◌, ℕ, ◌<◌, ◌&&◌, cond, get_or, false, None, ap, inl, inr, refl, ⊎_elim, arith}
use Rattle.relations.specs.Sound.{networks, relation}
use Rattle.model.specs.declared.relation.Relation.{Relation}
use Rattle.model.specs.declared.relation.Relation.TheVariants.{Unrelated, Customer, Peer, Provider}
use Rattle.model.specs.Selection.{Choice, nothing, local, via, rank, usable}
use Rattle.model.specs.Relations.{related}
use Rattle.selection.specs.Laws.{CustomersDecide}
use Rattle.model.specs.SelectionLaws.{NoCustomer, NotBelow}
use Rattle.selection.specs.Paths.{row}
use Rattle.model.proofs.Ranks.{rank_decides_lem}

only_customers : (x : Relation) → rank x < 1 → x ≡ Customer
only_customers Unrelated h = absurd (omega arith)
only_customers Customer h = refl
only_customers Peer h = absurd (omega arith)
only_customers Provider h = absurd (omega arith)

no_customer : (rel : ℕ → Relation) (c : Choice) → NotBelow 1 rel c → NoCustomer rel c
no_customer rel nothing h = tt
no_customer rel local h = tt
no_customer rel (via j p) h = λ e. let z = ap rank e in omega arith

pub customers_decide_lem : CustomersDecide
customers_decide_lem first r up up' received received' me block own ranked paths links =
    ⊎_elim
    (λ s. inl (s.0, s.1, only_customers (relation r me s.0) s.2, s.3, s.4))
    (λ s. inr (no_customer (relation r me) _ s.0, no_customer (relation r me) _ s.1))
    (rank_decides_lem first (relation r me) ranked 1 me own (networks r) (λ j. get_or up j false) (λ j. get_or up' j false) (λ j. row received block j) (λ j. row received' block j)
    (λ j _ l. let e = only_customers (relation r me j) l in λ i. cond (related (relation r me j) && links j e i) (usable me (paths j e i)) None))
