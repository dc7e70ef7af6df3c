-- A packet that is handed on goes over a link that is up and has one hop less, so it weighs less than it did. Assumes nothing.
use Rattle.std.proofs.Common.{◌≡◌, ℕ, zero, suc, ◌<◌, ◌≤◌, true, cond, eqb, [], ◌∷◌, Some, None, sum_by, Option, sym, refl, ap, ◌∙◌, subst, ⊎_elim, arith}
use Rattle.std.proofs.lemmas.Bool.{cases_eq, cond_both, cond-true, cond-false, eq-eqb, ne_eqb}
use Rattle.model.specs.Selection.{Choice, nothing, local, via}
use Rattle.model.specs.World.{World}
use Rattle.model.specs.Local.{Local, choice}
use Rattle.model.specs.Packets.{Packet, Forwarded, arrived, handed, forwarded, by_choice, hand, of_block, dropped, Lookup}
use Rattle.model.specs.declared.drop_reason.DropReason.{DropReason}
use Rattle.model.specs.declared.drop_reason.DropReason.TheVariants.{NoBlock, NoRoute, NoHops}
use Rattle.model.specs.Run.{Item, packet, onward}
use Rattle.model.specs.Measure.{sum, weight}
use Rattle.convergence.proofs.Goodness.{chosen_is}
use Rattle.convergence.proofs.Sums.{sum_at, sum_none, sum_same}

module _ (w : World) (l : Local) (p : Packet) where
  -- what hands nothing on, or hands the packet on with one hop less
  abbrev Less : Forwarded → Type 0
  Less o = (k : ℕ) (q : Packet) → o ≡ handed k q → (k < w.n) × (l.up k ≡ true) × (q.address ≡ p.address) × (suc q.hops ≡ p.hops)

  stays : (o : Forwarded) → o ≡ arrived → Less o
  stays o a k q e = absurd (let z : ◌≡◌ {A = ℕ} 0 1 = cc in omega arith)

  falls : (o : Forwarded) (why : DropReason) → o ≡ dropped why → Less o
  falls o why d k q e = absurd (let z : ◌≡◌ {A = ℕ} 0 1 = cc in omega arith)

  less_by_hops : (j : ℕ) → j < w.n → l.up j ≡ true → (hops : ℕ) → hops ≡ p.hops → Less (hand p.address j hops)
  less_by_hops j there up zero f k q e = falls (dropped NoHops) NoHops refl k q e
  less_by_hops j there up (suc hops) f k q e =
      let r : Packet = record { address = p.address; hops = hops } in
      let same : q ≡ r = cc in
      let to : k ≡ j = cc in
      (subst (λ y. y < w.n) (sym to) there, ap l.up to ∙ up, ap (λ y. y.address) same, ap (λ y. suc y.hops) same ∙ f)

  less_by_choice : (i b : ℕ) (c : Choice) → choice w i l b ≡ c → Less (by_choice p c)
  less_by_choice i b nothing e = falls (dropped NoRoute) NoRoute refl
  less_by_choice i b local e = stays arrived refl
  less_by_choice i b (via j path) e = let c = chosen_is w i l b j path e in less_by_hops j c.there c.up p.hops refl

  less_in_block : (i : ℕ) (o : Option ℕ) → Less (of_block w i l p o)
  less_in_block i None = falls (dropped NoBlock) NoBlock refl
  less_in_block i (Some b) = cond_both (w.is_home b i) arrived (by_choice p (choice w i l b)) Less (λ _. stays arrived refl) (λ _. less_by_choice i b (choice w i l b) refl)

pub handed_on : (w : World) (find : Lookup) (i : ℕ) (l : Local) (p : Packet) (k : ℕ) (q : Packet) → forwarded w find i l p ≡ handed k q → (k < w.n) × (l.up k ≡ true) × (q.address ≡ p.address) × (suc q.hops ≡ p.hops)
handed_on w find i l p = less_in_block w l p i (find p.address)

-- what goes on to one network, weighed by where it goes
pub onward_one : (n : ℕ) (heavy : ℕ → Item → ℕ) (j : ℕ) (q : Packet) → j < n → sum n (λ k. sum_by (heavy k) (onward (handed j q) k)) ≡ heavy j (packet q)
onward_one n heavy j q h = sum_same n _ _ (λ k _. one k) ∙ sum_at n j (heavy j (packet q)) h
  where
    one : (k : ℕ) → sum_by (heavy k) (cond (eqb k j) (packet q ∷ []) []) ≡ cond (eqb k j) (heavy j (packet q)) 0
    one k =
        ⊎_elim
        (λ e. let same = ap (λ y. heavy y (packet q)) e in let here = eq-eqb k j e in
        let c = ap (sum_by (heavy k)) (cond-true (eqb k j) (packet q ∷ []) [] here) in let d = cond-true (eqb k j) (heavy j (packet q)) 0 here in omega (arith, same, c, d))
        (λ ne. ap (sum_by (heavy k)) (cond-false (eqb k j) (packet q ∷ []) [] (ne_eqb k j ne)) ∙ sym (cond-false (eqb k j) (heavy j (packet q)) 0 (ne_eqb k j ne)))
        (cases_eq k j)

-- what goes on of a packet, over channels of any levels
pub onward_weighs : (w : World) (find : Lookup) (i : ℕ) (l : Local) (p : Packet) (lev : ℕ → ℕ) → sum w.n (λ k. sum_by (weight w.n (lev k)) (onward (forwarded w find i l p) k)) ≤ p.hops
onward_weighs w find i l p lev = light (forwarded w find i l p) refl
  where
    light : (o : Forwarded) → forwarded w find i l p ≡ o → sum w.n (λ k. sum_by (weight w.n (lev k)) (onward o k)) ≤ p.hops
    light arrived e = omega (arith, sum_none w.n)
    light (dropped why) e = omega (arith, sum_none w.n)
    light (handed j q) e =
        let h = handed_on w find i l p j q e in
        let a = onward_one w.n (λ k. weight w.n (lev k)) j q h.0 in
        let b = h.3 in
        omega (arith, a, b)
