-- What `settle` answers of relations, homes and links that say the same as a setting. Assumes nothing.
use Rattle.std.proofs.Common.{◌≡◌, ℕ, ◌<◌, Bool, true, false, eqb, List, MatchBool, sym, refl, ◌∙◌, subst}
use Rattle.std.proofs.lemmas.Bool.{eq-eqb}
use Rattle.relations.specs.Sound.{networks as networks_of, relation}
use Rattle.model.specs.Selection.{Choice, by_keys, nothing}
use Rattle.model.specs.Stable.{stable}
use Rattle.selection.specs.Worlds.{is_home_by}
use Rattle.selection.specs.declared.world.World.{World}
use Rattle.stable.specs.Linked.{up as up_of}
use Rattle.stable.specs.Settling.{LeadsHome, Settled, goes_by, has_way}
use Rattle.stable.specs.Ways.{Leads}
use Rattle.stable.specs.declared.linked.LinkSet.{LinkSet}
use Rattle.stable.specs.declared.routing.Routing.{Routing}
use Rattle.cases.specs.Rows as Cases
use Rattle.cases.specs.Settings.{Setting, up, world as world_of}
use Rattle.answered_cases.specs.Rows.{Same, Settles, Unpaid}
use Rattle.answered_cases.proofs.Alike.{stable_alike}

module _ (s : Setting) (world : World) (links : LinkSet) (b : ℕ) (x : Routing) (alike : Same s world links b) (found : Settled world links b x) where
  answers : (i : ℕ) → i < s.networks → goes_by x i ≡ stable (world_of s) (up s) 0 i
  answers i hi =
      let r = world.relations.now in
      let homes = world.homes.now in
      found.chosen i (subst (λ n. i < n) (sym alike.networks) hi) ∙
      stable_alike (networks_of r) (relation r) (λ a. by_keys (relation r a)) _ 1 (is_home_by homes) (λ c a. eqb a s.home) (up_of links) b 0 alike.homes i ∙
      (λ k. stable (record { n = alike.networks k; rel = λ a c. alike.related a c k; order = λ a. by_keys (λ c. alike.related a c k); blocks = 1; is_home = λ c a. eqb a s.home }) (λ a c. alike.linked a c k) 0 i)

  -- from where a way leads, it is found
  led : (t : Bool) (P : Type 0) → MatchBool t P (P → ⊥) → P → t ≡ true
  led true P m p = refl
  led false P m p = absurd (m p)

  leads_home : (i : ℕ) → i < s.networks → (over : List ℕ) → Leads s.networks (up s) i over s.home → has_way x i ≡ true
  leads_home i hi over way =
      let below : i < networks_of world.relations.now = subst (λ n. i < n) (sym alike.networks) hi in
      let same : Leads (networks_of world.relations.now) (up_of links) i over s.home = subst (λ l. l) (λ k. Leads (sym alike.networks k) (λ a c. sym (alike.linked a c) k) i over s.home) way in
      led (has_way x i) (LeadsHome world links b i) (found.ways i below) (s.home, alike.homes s.home ∙ eq-eqb s.home s.home refl, (over, same))

pub settles : (s : Setting) (choices : List Choice) → Cases.Settles s choices → Settles s choices
settles s choices h world links b x alike found i hi = answers s world links b x alike found i hi ∙ h.chosen i hi

pub unpaid : (s : Setting) (i : ℕ) (over : List ℕ) → i < s.networks → stable (world_of s) (up s) 0 i ≡ nothing → Leads s.networks (up s) i over s.home → Unpaid s i over
unpaid s i over hi e way =
    record {
      chosen = e;
      way = way;
      answered = λ world links b x alike found. (answers s world links b x alike found i hi ∙ e, leads_home s world links b x alike found i hi over way);
    }
