-- Each network is made by its number, up to the first that is refused.
use Rattle.std.proofs.Common.{◌<◌, ⊎_elim, rules}
use Rattle.std.proofs.lemmas.Result.{IfOk-weaker, IfErr-weaker, MatchResult-from_both}
use Rattle.std.specs.Result.{MatchResult}
use Rattle.links.specs.Made.{IfTooLarge}
use Rattle.simulation.specs.Beginning.{Fresh}
use Rattle.simulation.proofs.Counted.{counted}
use Rattle.simulation.proofs.Fresh.{all_fresh, why_at}
use Rattle.simulation.proofs.simulation.making.networks.Goals as goal

pub returns : goal.returns
returns c =
    let blocks = c.args.blocks in
    let made = counted _ _ (λ k y. MatchResult y (Fresh k blocks) (IfTooLarge (256 < blocks))) _ c.args.count c.map.ensures.runs (λ a r f. search rules) (λ k y f. search rules) in
    let all = IfOk-weaker c.try_collect.result _ _ (λ v run.
    let each = made run.0 run.1 in
    let got = run.3 (λ xs was x is a b. search rules) in
    all_fresh blocks _ run.0.at each.1 v got.0 run.0.len c.args.count got.1 got.2 (each.0 run.2) got.3) c.try_collect.ensures.runs in
    let first = IfErr-weaker c.try_collect.result _ _ (λ e why. ⊎_elim
    (λ full. search rules)
    (λ run. why_at blocks _ run.0.at (made run.0 run.1).1 run.2.0 e run.2.2) why) c.try_collect.ensures.err in
    MatchResult-from_both c.try_collect.result _ _ all first
