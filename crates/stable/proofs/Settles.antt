-- What is found by looking 2n times, and looking once more, is the only stable routing. Assumes nothing.
use Rattle.std.proofs.Common.{◌≡◌, ℕ, ◌*◌, ◌<◌, sym, ap, ◌∙◌, subst, nat_lt, MatchBool, add-one}
use Rattle.std.proofs.lemmas.Bool.{cond-true, cond-false, lt-ltb, le-ltb}
use Rattle.model.proofs.Chosen.{strict}
use Rattle.model.specs.Stable.{looks, stable}
use Rattle.model.specs.World.{Sound}
use Rattle.relations.specs.Sound.{relation}
use Rattle.selection.specs.Sets.{member}
use Rattle.selection.specs.declared.world.World.{World}
use Rattle.convergence.proofs.Routings.{exists, only_one}
use Rattle.stable.specs.Looking.{shown}
use Rattle.stable.specs.Networks.{ShowsLast, WayHomeIn, count_in, is_home_in, links_in, rules_of, world_in}
use Rattle.stable.specs.Settling.{Settled, goes_by, gone_by}
use Rattle.stable.specs.declared.routing.Routing.{Routing}
use Rattle.stable.proofs.Simple.{read_back}

sound : (world : World) → Sound (rules_of world)
sound world =
    let r = world.relations.now in
    record {
      few = r.matrix.few;
      both = λ i j l m. r.matrix.mutual i j;
      acyclic = λ ring below cycle. r.acyclic ring cycle;
      ranked = λ i hi. (strict (relation r i)).1;
      strict = λ i hi. (strict (relation r i)).0;
    }

pub settled : (x : Routing) → ShowsLast x.networks x.shown → ((i : ℕ) → i < count_in x.networks → MatchBool (member x.reaching i) (WayHomeIn x.networks i) (WayHomeIn x.networks i → ⊥)) → Settled x.networks.world x.networks.links.now x.networks.block x
unfolding goes_by
settled x h ways =
    let w = world_in x.networks in
    let n = count_in x.networks in
    let b = x.networks.block in
    let links = links_in x.networks in
    let own = is_home_in x.networks in
    let chosen : (i : ℕ) → i < n → goes_by x i ≡ stable w links b i =
    λ i hi. cond-true (nat_lt i n) _ _ (lt-ltb i n hi) ∙ ap (gone_by (own i)) (h i hi) ∙ subst (λ k. gone_by (own i) (shown i (looks k w links b i)) ≡ looks k w links b i) (sym (add-one (2 * n))) (read_back w links b (2 * n) i hi x.networks.world.relations.now.matrix.few) in
    record {
      chosen = chosen;
      only = λ a st i hi. chosen i hi ∙ only_one w (sound x.networks.world) links b (stable w links b) a (exists w (sound x.networks.world) links b) st i hi;
      ways = ways;
      past = λ i hi. cond-false (nat_lt i n) _ _ (le-ltb i n hi);
    }
