-- What a network that holds only proper paths goes by and tells is proper. Assumes nothing.
use Rattle.std.proofs.Common.{◌≡◌, ℕ, ◌<◌, Bool, true, false, cond, ◌&&◌, ltb, List, [], ◌∷◌, length, Some, None, sym, refl, ap, subst, arith}
use Rattle.std.proofs.lemmas.Bool.{and_from, and_parts, cond_both, eq-eqb, eqb-true, false≢true, lt-ltb, ltb-true, or_from}
use Rattle.model.specs.Relations.{opposite, related, provider}
use Rattle.model.specs.declared.relation.Relation.{Relation}
use Rattle.model.specs.declared.relation.Relation.TheVariants.{Unrelated, Customer, Peer, Provider}
use Rattle.model.specs.Selection.{Choice, nothing, local, via, usable, Said}
use Rattle.model.specs.Paths.{Path, passes, allowed, below, descends, repeats}
use Rattle.model.proofs.Chosen.{own_home, usable as chosen_usable}
use Rattle.model.specs.Export.{may_tell, in_front, longer, own, told}
use Rattle.model.specs.declared.limits.TheConstants.{MOST_NETWORKS}
use Rattle.model.specs.World.{World, Sound}
use Rattle.model.specs.Promise.{Proper, ProperChoice, ProperSaying}
use Rattle.model.specs.Local.{Local, choice, tells_now}
use Rattle.model.specs.RouterLaws.{HoldsProper}

pub never : {X : Type 0} (p : Path) → None ≡ Some p → X
never p e = absurd (let z : ◌≡◌ {A = ℕ} 0 1 = cc in omega arith)

kept : (t : Bool) (q p : Path) → cond t None (Some q) ≡ Some p → (t ≡ false) × (q ≡ p)
kept true q p e = never p e
kept false q p e = (refl, cc)

-- a candidate was told, over a link that is up, and does not pass the network itself
candidate_is : (t : Bool) (me : ℕ) (o : Said) (p : Path) → cond t (usable me o) None ≡ Some p → (t ≡ true) × (o ≡ Some p) × (passes me p.networks ≡ false)
candidate_is false me o p e = never p e
candidate_is true me None p e = never p e
candidate_is true me (Some q) p e = let k = kept (passes me q.networks) q p e in (refl, ap Some k.1, subst (λ r. passes me r.networks ≡ false) k.1 k.0)

-- a path that is gone by is one that a related neighbour below n told over a link that is up
pub record Usable (w : World) (i : ℕ) (l : Local) (b j : ℕ) (p : Path) : Type 0 where
  pub there : j < w.n
  pub tied : related (w.rel i j) ≡ true
  pub up : l.up j ≡ true
  pub received : l.received b j ≡ Some p
  pub elsewhere : passes i p.networks ≡ false

pub chosen_is : (w : World) (i : ℕ) (l : Local) (b j : ℕ) (p : Path) → choice w i l b ≡ via j p → Usable w i l b j p
chosen_is w i l b j p e =
    let u = chosen_usable (w.order i) (w.rel i) l.up i (w.is_home b i) (l.received b) w.n j p e in
    let c = candidate_is (related (w.rel i j) && l.up j) i (l.received b j) p u.1 in
    let t = and_parts (related (w.rel i j)) (l.up j) c.0 in
    record { there = u.0; tied = t.0; up = t.1; received = c.1; elsewhere = c.2 }

pub choice_proper : (w : World) (i : ℕ) (l : Local) (b : ℕ) → HoldsProper w i l → ProperChoice w i b (choice w i l b)
choice_proper w i l b h = go (choice w i l b) refl
  where
    go : (c : Choice) → choice w i l b ≡ c → ProperChoice w i b c
    go nothing e = tt
    go local e = tt
    go (via j p) e = let u = chosen_is w i l b j p e in (subst (ProperSaying w i j b) u.received (h b j), u.elsewhere)

-- one step more in front of a valley-free path, to one that may be told it
climbs : (ij ik : Relation) (rest : Bool → Bool) → may_tell ij ik ≡ true → (allowed true ij && rest (provider ij)) ≡ true → (allowed true (opposite ik) && (allowed (provider (opposite ik)) ij && rest (provider (opposite ik) && provider ij))) ≡ true
climbs Unrelated Unrelated rest m d = absurd (false≢true m)
climbs Unrelated Customer rest m d = absurd (false≢true m)
climbs Unrelated Peer rest m d = absurd (false≢true m)
climbs Unrelated Provider rest m d = absurd (false≢true m)
climbs Customer Unrelated rest m d = absurd (false≢true m)
climbs Customer Customer rest m d = d
climbs Customer Peer rest m d = d
climbs Customer Provider rest m d = d
climbs Peer Unrelated rest m d = absurd (false≢true m)
climbs Peer Customer rest m d = d
climbs Peer Peer rest m d = absurd (false≢true m)
climbs Peer Provider rest m d = absurd (false≢true m)
climbs Provider Unrelated rest m d = absurd (false≢true m)
climbs Provider Customer rest m d = d
climbs Provider Peer rest m d = absurd (false≢true m)
climbs Provider Provider rest m d = absurd (false≢true m)

allowed_back : (ik : Relation) → related ik ≡ true → (allowed true (opposite ik) && true) ≡ true
allowed_back Unrelated e = e
allowed_back Customer e = refl
allowed_back Peer e = refl
allowed_back Provider e = refl

module _ (w : World) (sound : Sound w) (i k : ℕ) (hi : i < w.n) (hk : k < w.n) (b : ℕ) where
  own_proper : w.is_home b i ≡ true → related (w.rel i k) ≡ true → Proper w k i b (own i)
  own_proper home r =
      record {
        some = omega arith;
        short = omega arith;
        within = and_from (ltb i w.n) true (lt-ltb i w.n hi) refl;
        first = eq-eqb i i refl;
        last = home;
        once = refl;
        paid = subst (λ x. (allowed true x && true) ≡ true) (sym (sound.both i k hi hk)) (allowed_back (w.rel i k) r);
      }

  front_proper : (j : ℕ) (xs : List ℕ) → Proper w i j b (record { networks = xs }) → passes i xs ≡ false → may_tell (w.rel i j) (w.rel i k) ≡ true → length xs < MOST_NETWORKS → Proper w k i b (record { networks = i ∷ xs })
  front_proper j [] h away m short = absurd (let z = h.some in omega arith)
  front_proper j (x ∷ xs) h away m short =
      record {
        some = omega arith;
        short = omega arith;
        within = and_from (ltb i w.n) (below w.n (x ∷ xs)) (lt-ltb i w.n hi) h.within;
        first = eq-eqb i i refl;
        last = h.last;
        once = or_from (passes i (x ∷ xs)) (repeats (x ∷ xs)) away h.once;
        paid =
            subst (λ r. (allowed true r && descends w.rel (provider r) i (x ∷ xs)) ≡ true) (sym (sound.both i k hi hk))
            (climbs (w.rel i x) (w.rel i k) (λ c. descends w.rel c x xs) (subst (λ y. may_tell (w.rel i y) (w.rel i k) ≡ true) (sym (eqb-true x j h.first)) m) h.paid);
      }

  pub tells_proper : (l : Local) → HoldsProper w i l → ProperSaying w k i b (tells_now w i l b k)
  tells_proper l h = cond_both (l.up k) (told (w.rel i) i k (choice w i l b)) None (ProperSaying w k i b) (λ _. go (choice w i l b) refl (choice_proper w i l b h)) (λ _. tt)
    where
      go : (c : Choice) → choice w i l b ≡ c → ProperChoice w i b c → ProperSaying w k i b (told (w.rel i) i k c)
      go nothing e g = tt
      go local e g = cond_both (related (w.rel i k)) (Some (own i)) None (ProperSaying w k i b) (λ r. own_proper ((own_home (w.order i) (w.rel i) l.up i (w.is_home b i) (l.received b) w.n).0 e) r) (λ _. tt)
      go (via j p) e g =
          cond_both (may_tell (w.rel i j) (w.rel i k)) (in_front i p) None (ProperSaying w k i b)
          (λ m. cond_both (ltb (length p.networks) MOST_NETWORKS) (Some (longer i p)) None (ProperSaying w k i b) (λ s. front_proper j p.networks g.0 g.1 m (ltb-true (length p.networks) MOST_NETWORKS s)) (λ _. tt))
          (λ _. tt)
