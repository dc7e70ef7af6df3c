-- Each network is asked.
use Rattle.std.proofs.Common.{◌≡◌, ℕ, ◌-◌, true, ◌&&◌, Bool, false, rules, tests, arith, refl}
use Rattle.std.proofs.lemmas.Iterator.{YieldsList-from_range, cases_from_any}
use Rattle.selection.specs.Sets.{member}
use Rattle.stable.specs.Networks.{links_in}
use Rattle.stable.proofs.Growth.{linked_or_not}
use Rattle.stable.proofs.Ranges.{some_number}
use Rattle.stable.proofs.looking.Networks.leads_in.Goals as goal

pub returns : goal.returns
returns c =
    let links = links_in c.args.self in
    let leads : ℕ → Bool = λ k. member c.args.reached k && links c.args.from k in
    linked_or_not _ links (member c.args.reached) c.args.from c.any.result
    (some_number (c.networks.result - 0) _ c.any.result (λ k. leads k ≡ true) (λ k. leads k ≡ false) (omega (arith, c.networks.ensures))
    (cases_from_any _ _ c.any.result (λ k. leads k ≡ true) (λ k. leads k ≡ false) c.any.ensures.ran (YieldsList-from_range _ _ _ refl refl) (λ x q k. search (rules, tests)) (λ x q k. (search rules, search (rules, tests)))))
