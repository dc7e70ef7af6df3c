-- The counts of the rows add up to the whole.
use Rattle.std.proofs.Common.{ℕ, ◌<◌, length, ap, ◌∙◌, arith, rules}
use Rattle.std.specs.List.{range_with_len, sum_by}
use Rattle.std.proofs.lemmas.Iterator.{YieldsList-from_range, YieldsList-from_map}
use Rattle.std.proofs.lemmas.Iterator.Consumers.{YieldsList-at, fits_by_from_yields_list, sum_by_from_yields_List}
use Rattle.relations.specs.Sound.{networks, relation}
use Rattle.relations.specs.declared.sound.Relations.{Relations}
use Rattle.ties.specs.Encoding.{row}
use Rattle.ties.proofs.Written.{totalled, listing_short}
use Rattle.ties.proofs.account.count_ties.Goals as goal

-- how many ties the row of network i has
abbrev long : Relations → ℕ → ℕ
long r i = length (row (networks r) (relation r) i)

pub sum-requires-clause-fits : goal.sum-requires-clause-fits
sum-requires-clause-fits c =
    let r = c.args.relations.now in
    let n = c.networks.result in
    let few : sum_by (long r) (range_with_len 0 n) < 65536 = omega (arith, ap (λ m. sum_by (long r) (range_with_len 0 m)) c.networks.ensures, totalled (row (networks r) (relation r)) (networks r), listing_short (networks r) (relation r)) in
    fits_by_from_yields_list (long r) (range_with_len 0 n) c.map.result 65536 (YieldsList-from_map _ (long r) (YieldsList-at c.map.ensures.source (YieldsList-from_range 0 n n (cc) (omega arith))) c.map.ensures.closure (λ x b q k. search rules)) few

pub returns : goal.returns
returns c =
    let r = c.args.relations.now in
    let n = c.networks.result in
    sum_by_from_yields_List (long r) (range_with_len 0 n) c.map.result c.sum.result c.sum.ensures.ran (YieldsList-from_map _ (long r) (YieldsList-at c.map.ensures.source (YieldsList-from_range 0 n n (cc) (omega arith))) c.map.ensures.closure (λ x b q k. search rules)) ∙
    ap (λ m. sum_by (long r) (range_with_len 0 m)) c.networks.ensures ∙
    totalled (row (networks r) (relation r)) (networks r)
