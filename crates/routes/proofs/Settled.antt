-- What is printed of a settled routing tells the stable routing.
use Rattle.std.proofs.Common.{◌≡◌, ◌<◌, ℕ, Bool, true, false, List, Some, inl, inr, ⊎_elim, MatchBool, refl, subst, sym, ap, ◌∙◌, slice_get}
use Rattle.std.proofs.lemmas.Bool.{eq-eqb, eqb-true}
use Rattle.model.specs.Selection.{Choice, nothing, local, via}
use Rattle.selection.specs.Worlds.{is_home_of, is_network}
use Rattle.selection.specs.declared.world.World.{World}
use Rattle.relations.specs.Sound.{networks}
use Rattle.stable.specs.Linked.{up}
use Rattle.stable.specs.Ways.{Way}
use Rattle.stable.specs.Settling.{LeadsHome, goes_by, has_way}
use Rattle.routes.specs.Laws.{SettledIsTold, Tells, goes}
use Rattle.routes.specs.Accounts.{network_words, routing_line}

-- where it is known whether some way leads home
tells_by : (way : Type 0) (i : ℕ) (c : Choice) (reaches : Bool) → MatchBool reaches way (way → ⊥) → Tells way i c (network_words i c reaches)
tells_by way i nothing true is = inl (is, refl)
tells_by way i nothing false is = inr (is, refl)
tells_by way i local reaches is = refl
tells_by way i (via j path) reaches is = refl

-- the home of a block is the one home
one_home : (world : World) (b home i : ℕ) → slice_get world.homes.now b ≡ Some home → is_home_of world b i ≡ true → i ≡ home
one_home world b home i e at = eqb-true i home (sym (ap (λ x. is_network x i) e) ∙ at)

its_home : (world : World) (b home : ℕ) → slice_get world.homes.now b ≡ Some home → is_home_of world b home ≡ true
its_home world b home e = ap (λ x. is_network x home) e ∙ eq-eqb home home refl

-- a way leads to a home of the block as one leads to its home
tells_home : (way other : Type 0) → (way → other) → (other → way) → (i : ℕ) (c : Choice) (line : List ℕ) → Tells way i c line → Tells other i c line
tells_home way other on back i nothing line t = ⊎_elim (λ h. inl (on h.0, h.1)) (λ h. inr ((λ o. h.0 (back o)), h.1)) t
tells_home way other on back i local line t = t
tells_home way other on back i (via j path) line t = t

pub told : SettledIsTold
told world links block x settled =
    let tells : (i : ℕ) → i < networks world.relations.now → Tells (LeadsHome world links block.block i) i (goes world links block i) (routing_line x i) = λ i hi. subst (λ c. Tells (LeadsHome world links block.block i) i c (routing_line x i)) (settled.chosen i hi) (tells_by _ i (goes_by x i) (has_way x i) (settled.ways i hi)) in
    record {
      line = routing_line x;
      whole = refl;
      tells = tells;
      home = λ e i hi. tells_home (LeadsHome world links block.block i) (Way (networks world.relations.now) (up links) i block.home) (λ h. subst (λ k. Way (networks world.relations.now) (up links) i k) (one_home world block.block block.home h.0 e h.1) h.2) (λ h. (block.home, its_home world block.block block.home e, h)) i (goes world links block i) (routing_line x i) (tells i hi);
    }
