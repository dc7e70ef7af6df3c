-- Those networks are counted with which network i stands first.
use Rattle.std.proofs.Common.{length, ltb, ap, ◌∙◌, arith, rules, tests}
use Rattle.std.specs.List.{filter, range_with_len}
use Rattle.std.proofs.lemmas.Iterator.{YieldsList-from_range}
use Rattle.std.proofs.lemmas.Iterator.Consumers.{YieldsList-at, YieldsList-from_filter, count_from_yields_List}
use Rattle.relations.specs.Sound.{networks, relation}
use Rattle.ties.specs.Encoding.{listed}
use Rattle.ties.proofs.Written.{counted, length_listed}
use Rattle.ties.proofs.account.count_row.Goals as goal

pub returns : goal.returns
returns c =
    let r = c.args.relations.now in
    let i = c.args.i in
    let n = c.networks.result in
    count_from_yields_List c.filter.result c.count.result c.count.ensures.ran (YieldsList-from_filter _ (λ j. ltb 0 (length (listed (relation r i j) i j))) (YieldsList-at c.filter.ensures.source (YieldsList-from_range 0 n n (cc) (omega arith))) c.filter.ensures.closure (λ x b q k. search (rules, tests))) ∙
    ap (λ m. length (filter (λ j. ltb 0 (length (listed (relation r i j) i j))) (range_with_len 0 m))) c.networks.ensures ∙
    counted (λ j. listed (relation r i j) i j) (networks r) (λ j. length_listed (relation r i j) i j)
