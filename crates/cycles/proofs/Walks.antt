-- Walks up, and what one level more meets. Assumes nothing.
use Rattle.std.proofs.Common.{◌≡◌, ℕ, zero, suc, ◌+◌, ◌<◌, ◌≤◌, Bool, true, false, cond, eqb, ◌⊎◌, List, [], ◌∷◌, ◌++◌, length, get_or, set, sym, refl, ap, ◌∙◌, subst, inl, inr, ⊎_elim, arith}
use Rattle.std.specs.List.{AllByRecursion}
use Rattle.std.proofs.lemmas.List.{length_push, get_or-set_same, get_or-set_other}
use Rattle.std.proofs.ByRecursion.{All-push}
use Rattle.std.proofs.lemmas.List.Sums.{sum_by-set}
use Rattle.std.proofs.lemmas.Bool.{cases_eq, cases_lt}
use Rattle.std.proofs.lemmas.Bool.Decides.{nat_tests}
use Rattle.model.specs.Relations.{Between, Mutual, Within, opposite}
use Rattle.model.specs.Cycles.{Chain}
use Rattle.cycles.specs.Walk.{Climb, Fewest, Known, Shortest, Spread, Walked, noted}
use Rattle.model.specs.declared.relation.Relation.TheVariants.{Customer, Provider}

-- a provider stands in the table
pub in_table : (rel : Between) (n i j : ℕ) → Mutual rel → Within n rel → n ≤ 64 → rel i j ≡ Provider → j < 64
in_table rel n i j both within few e =
    ⊎_elim
    (λ h. h)
    (λ h.
    let back : rel j i ≡ Customer = both i j ∙ ap opposite e in
    let out = within j i (omega arith) in
    let z : ◌≡◌ {A = ℕ} 0 1 = cc in omega arith)
    (cases_lt j 64)

module _ (rel : Between) (low : ℕ) where
  pub climb_one : (s w : ℕ) → low ≤ w → rel s w ≡ Provider → Climb rel low 1 s w
  climb_one s w h e = record { over = []; chain = e; above = tt; ends = h; long = refl }

  chain_more : (xs : List ℕ) (s v w : ℕ) → Chain rel s xs v → rel v w ≡ Provider → Chain rel s (xs ++ v ∷ []) w
  chain_more [] s v w c e = (c, e)
  chain_more (x ∷ xs) s v w c e = (c.0, chain_more xs x v w c.1 e)

  -- one step more at the end
  pub climb_more : (k s v w : ℕ) → Climb rel low k s v → low ≤ w → rel v w ≡ Provider → Climb rel low (k + 1) s w
  climb_more k s v w c h e =
      record {
        over = c.over ++ v ∷ [];
        chain = chain_more c.over s v w c.chain e;
        above = All-push (λ y. low ≤ y) c.over v c.above c.ends;
        ends = h;
        long = omega (arith, length_push c.over v);
      }

  chain_last : (x : ℕ) (xs : List ℕ) (s w : ℕ) → Chain rel s (x ∷ xs) w → AllByRecursion (λ y. low ≤ y) (x ∷ xs) → (v : ℕ) × (Climb rel low (length xs + 1) s v) × (rel v w ≡ Provider)
  chain_last x [] s w c a = (x, climb_one s x a.0 c.0, c.1)
  chain_last x (y ∷ xs) s w c a =
      let r = chain_last y xs x w c.1 a.1 in
      let d = r.1 in
      (r.0, record { over = x ∷ d.over; chain = (c.0, d.chain); above = (a.0, d.above); ends = d.ends; long = omega (arith, d.long) }, r.2)

  -- the last step taken away
  pub climb_last : (k s w : ℕ) → 0 < k → Climb rel low (k + 1) s w → (v : ℕ) × Climb rel low k s v × (rel v w ≡ Provider)
  climb_last k s w h c = at c.over c.chain c.above c.long
    where
      at : (xs : List ℕ) → Chain rel s xs w → AllByRecursion (λ y. low ≤ y) xs → length xs + 1 ≡ k + 1 → (v : ℕ) × Climb rel low k s v × (rel v w ≡ Provider)
      at [] d a e = let z : ⊥ = omega arith in elim z [ ]
      at (x ∷ xs) d a e =
          let r = chain_last x xs s w d a in
          let same : length xs + 1 ≡ k = omega arith in
          (r.0, subst (λ n. Climb rel low n s r.0) same r.1, r.2)

  -- what is met for a part of the sources, and for more of them
  module _ (step : ℕ) (before : List ℕ) where
    module _ (after : List ℕ) (met : Bool) (S S' : ℕ → ℕ → Type 0) (old : Spread rel low step S before after met) (more : (v w : ℕ) → S v w → S' v w) where
      pub spread_skip : ((v w : ℕ) → S' v w → rel v w ≡ Provider → S v w ⊎ (0 < get_or after w 0)) → Spread rel low step S' before after met
      spread_skip back =
          record {
            kept = old.kept;
            added = λ w e h. let a = old.added w e h in (a.0, a.1, a.2, more a.0 w a.3, a.4);
            all = λ v w s h e. ⊎_elim (λ t. old.all v w t h e) (λ t. t) (back v w s e);
            fewer = old.fewer;
            same = old.same;
          }

      pub spread_one : (u i : ℕ) → i < length after → 0 < step → get_or after i 0 ≡ 0 → low ≤ i → rel u i ≡ Provider → S' u i → ((v w : ℕ) → S' v w → S v w ⊎ (w ≡ i)) → Spread rel low step S' before (set after i step) true
      spread_one u i in' some free high up own back =
          let here = get_or-set_same after i step 0 in' in
          let there : (w : ℕ) → (w ≡ i → ⊥) → get_or (set after i step) w 0 ≡ get_or after w 0 = λ w ne. get_or-set_other after i w step 0 ne in
          let falls = sum_by-set (λ k. cond (eqb k 0) 1 0) after i step 0 in' in
          record {
            kept = λ w h. let e = old.kept w h in let ne : w ≡ i → ⊥ = λ is. let at = ap (λ k. get_or after k 0) is in omega arith in there w ne ∙ e;
            added = λ w e h.
                ⊎_elim
                (λ is. (u, ap (λ k. get_or (set after i step) k 0) is ∙ here, omega arith, subst (λ k. S' u k) (sym is) own, subst (λ k. rel u k ≡ Provider) (sym is) up))
                (λ ne. let same = there w ne in let a = old.added w e (omega arith) in (a.0, same ∙ a.1, a.2, more a.0 w a.3, a.4))
                (cases_eq w i);
            all = λ v w s h e.
                ⊎_elim
                (λ is. let at = ap (λ k. get_or (set after i step) k 0) is in omega arith)
                (λ ne. let same = there w ne in ⊎_elim (λ t. let seen = old.all v w t h e in omega arith) (λ t. let z : ⊥ = ne t in elim z [ ]) (back v w s))
                (cases_eq w i);
            fewer = let less = old.fewer in grind (arith, nat_tests);
            same = λ e. cc;
          }

      pub spread_then : (last : List ℕ) (met₂ met₃ : Bool) (T : ℕ → ℕ → Type 0) → Spread rel low step T after last met₂ → met₃ ≡ cond met₂ true met → ((v w : ℕ) → T v w → S' v w) → ((v w : ℕ) → S' v w → S v w ⊎ T v w) → Spread rel low step S' before last met₃
      spread_then last met₂ met₃ T new is too back =
          record {
            kept = λ w h. let e = old.kept w h in new.kept w (omega arith) ∙ e;
            added = λ w e h.
                ⊎_elim
                (λ free. let a = new.added w free h in (a.0, a.1, a.2, too a.0 w a.3, a.4))
                (λ ne. let same = new.kept w (omega arith) in let a = old.added w e (omega arith) in (a.0, same ∙ a.1, a.2, more a.0 w a.3, a.4))
                (cases_eq (get_or after w 0) 0);
            all = λ v w s h e.
                ⊎_elim
                (λ t. let seen = old.all v w t h e in let same = new.kept w seen in omega arith)
                (λ t. new.all v w t h e)
                (back v w s);
            fewer = let less = old.fewer in let less₂ = new.fewer in grind (arith, nat_tests);
            same = λ e. let still₂ : met₂ ≡ false = grind (arith, nat_tests) in let still : met ≡ false = grind (arith, nat_tests) in new.same still₂ ∙ old.same still;
          }

  -- the search for the providers of one network, at network i
  module _ (step from i : ℕ) (before after : List ℕ) (met : Bool) (old : Spread rel low step (λ v w. (v ≡ from) × (w < i)) before after met) where
    pub meet_no : (last : List ℕ) (met₂ : Bool) → last ≡ after → met₂ ≡ met → (0 < get_or after i 0) ⊎ (rel from i ≡ Provider → ⊥) → Spread rel low step (λ v w. (v ≡ from) × (w < i + 1)) before last met₂
    meet_no last met₂ is is₂ why =
        rw (is, is₂)
        (spread_skip step before after met (λ v w. (v ≡ from) × (w < i)) (λ v w. (v ≡ from) × (w < i + 1)) old
        (λ v w h. (h.0, omega (arith, h.1)))
        (λ v w h e.
        ⊎_elim
        (λ is. inr (⊎_elim (λ seen. subst (λ k. 0 < get_or after k 0) (sym is) seen) (λ none. let z : ⊥ = none (ap (λ k. rel k i) (sym h.0) ∙ ap (λ k. rel v k) (sym is) ∙ e) in elim z [ ]) why))
        (λ ne. inl (h.0, omega (arith, h.1)))
        (cases_eq w i)))

    pub meet_yes : (last : List ℕ) (met₂ : Bool) → last ≡ set after i step → met₂ ≡ true → i < length after → 0 < step → get_or after i 0 ≡ 0 → low ≤ i → rel from i ≡ Provider → Spread rel low step (λ v w. (v ≡ from) × (w < i + 1)) before last met₂
    meet_yes last met₂ is is₂ in' some free high up =
        rw (is, is₂)
        (spread_one step before after met (λ v w. (v ≡ from) × (w < i)) (λ v w. (v ≡ from) × (w < i + 1)) old
        (λ v w h. (h.0, omega (arith, h.1)))
        from i in' some free high up (refl, omega arith)
        (λ v w h. ⊎_elim (λ is. inr is) (λ ne. inl (h.0, omega (arith, h.1))) (cases_eq w i)))

  -- a step on from each network of a level, at network i
  module _ (level i : ℕ) (before after : List ℕ) (met : Bool) (some : 0 < level) (old : Spread rel low (level + 1) (λ v w. (get_or before v 0 ≡ level) × (v < i)) before after met) where
    pub rise_no : (last : List ℕ) (met₂ : Bool) → last ≡ after → met₂ ≡ met → (get_or after i 0 ≡ level → ⊥) → Spread rel low (level + 1) (λ v w. (get_or before v 0 ≡ level) × (v < i + 1)) before last met₂
    rise_no last met₂ is is₂ other =
        rw (is, is₂)
        (spread_skip (level + 1) before after met (λ v w. (get_or before v 0 ≡ level) × (v < i)) (λ v w. (get_or before v 0 ≡ level) × (v < i + 1)) old
        (λ v w h. (h.0, omega (arith, h.1)))
        (λ v w h e.
        ⊎_elim
        (λ is. let at = ap (λ k. get_or before k 0) is in let same = old.kept i (omega (arith, h.0)) in let z : ⊥ = other (omega (arith, h.0)) in elim z [ ])
        (λ ne. inl (h.0, omega (arith, h.1)))
        (cases_eq v i)))

    was : get_or after i 0 ≡ level → get_or before i 0 ≡ level
    was is =
        ⊎_elim
        (λ free. omega (arith, (old.added i free (omega arith)).1))
        (λ ne. let same = old.kept i (omega arith) in omega arith)
        (cases_eq (get_or before i 0) 0)

    pub rise_yes : (last : List ℕ) (met₂ met₃ : Bool) → get_or after i 0 ≡ level → Spread rel low (level + 1) (λ v w. v ≡ i) after last met₂ → met₃ ≡ cond met₂ true met → Spread rel low (level + 1) (λ v w. (get_or before v 0 ≡ level) × (v < i + 1)) before last met₃
    rise_yes last met₂ met₃ is new e =
        spread_then (level + 1) before after met (λ v w. (get_or before v 0 ≡ level) × (v < i)) (λ v w. (get_or before v 0 ≡ level) × (v < i + 1)) old
        (λ v w h. (h.0, omega (arith, h.1)))
        last met₂ met₃ (λ v w. v ≡ i) new e
        (λ v w h. (ap (λ k. get_or before k 0) h ∙ was is, omega arith))
        (λ v w h. ⊎_elim (λ at. inr at) (λ ne. inl (h.0, omega (arith, h.1))) (cases_eq v i))

  -- a level more
  module _ (level s : ℕ) (before after : List ℕ) (met : Bool) (some : 0 < level) (known : Known rel low level s before) (spread : Spread rel low (level + 1) (λ v w. get_or before v 0 ≡ level) before after met) where
    -- a provider of a seen network is seen
    met_next : (v w : ℕ) → 0 < get_or before v 0 → low ≤ w → rel v w ≡ Provider → (0 < get_or after w 0)
    met_next v w seen h e =
        ⊎_elim
        (λ is. spread.all v w is h e)
        (λ ne.
        let old = known.real v seen in
        let up = known.least (get_or before v 0 + 1) w (omega (arith, old.1)) (climb_more (get_or before v 0) s v w old.0 h e) in
        omega (arith, spread.kept w up.0, up.0))
        (cases_eq (get_or before v 0) level)

    real_next : (w : ℕ) → 0 < get_or after w 0 → Climb rel low (get_or after w 0) s w × (get_or after w 0 ≤ level + 1)
    real_next w seen =
        ⊎_elim
        (λ new.
        let a = spread.added w new seen in
        let old = known.real a.0 (omega (arith, a.3)) in
        (subst (λ n. Climb rel low n s w) (ap (λ n. n + 1) a.3 ∙ sym a.1) (climb_more (get_or before a.0 0) s a.0 w old.0 a.2 a.4), omega (arith, a.1)))
        (λ ne.
        let same = spread.kept w (omega arith) in
        let old = known.real w (omega arith) in
        (subst (λ n. Climb rel low n s w) (sym same) old.0, omega (arith, old.1, same)))
        (cases_eq (get_or before w 0) 0)

    pub known_next : Known rel low (level + 1) s after
    known_next =
        record {
          real = real_next;
          least = λ m w h c.
              ⊎_elim
              (λ le. let old = known.least m w (omega arith) c in let same = spread.kept w old.0 in (omega (arith, old.0, same), omega (arith, old.1, same)))
              (λ gt.
              let is : m ≡ level + 1 = omega arith in
              let r = climb_last level s w some (subst (λ n. Climb rel low n s w) is c) in
              let seen = met_next r.0 w (known.least level r.0 (omega arith) r.1).0 c.ends r.2 in
              (seen, omega (arith, (real_next w seen).1)))
              (cases_lt m (level + 1));
        }

    seen_all : after ≡ before → (m w : ℕ) → Climb rel low m s w → (0 < get_or before w 0) × (get_or before w 0 ≤ m)
    seen_all same zero w c = let z : ⊥ = omega (arith, c.long) in elim z [ ]
    seen_all same (suc m) w c =
        ⊎_elim
        (λ le. known.least (suc m) w (omega arith) c)
        (λ gt.
        let r = climb_last m s w (omega arith) (subst (λ n. Climb rel low n s w) (omega arith) c) in
        let old = seen_all same m r.0 r.1 in
        let seen = subst (λ l. 0 < get_or l w 0) same (met_next r.0 w old.0 c.ends r.2) in
        (seen, omega (arith, (known.real w seen).1)))
        (cases_lt m level)

    -- the number that is noted is that of a walk, and of none with fewer steps
    fewest : (k w : ℕ) → (0 < k → Climb rel low k s w) → ((m : ℕ) → Climb rel low m s w → (0 < k) × (k ≤ m)) → Fewest rel low (noted k) s w
    fewest zero w real least = record { some = λ n e. absurd (cc); none = λ e m c. omega (arith, (least m c).0) }
    fewest (suc k) w real least =
        let short : Shortest rel low (suc k) s w = record { walk = real (omega arith); least = λ m c. (least m c).1 } in
        record { some = λ n e. let is : suc k ≡ n = cc in subst (λ m. Shortest rel low m s w) is short; none = λ e. absurd (cc) }

    -- a level that meets none is the last
    pub walked_last : after ≡ before → Walked rel low s after
    walked_last same =
        subst (λ l. Walked rel low s l) (sym same) (λ w. fewest _ w (λ seen. (known.real w seen).0) (λ m c. seen_all same m w c))

  -- the providers of the first network
  pub known_one : (s : ℕ) (before after : List ℕ) (met : Bool) → ((w : ℕ) → get_or before w 0 ≡ 0) → Spread rel low 1 (λ v w. v ≡ s) before after met → Known rel low 1 s after
  known_one s before after met clear spread =
      let first : (w : ℕ) → 0 < get_or after w 0 → (get_or after w 0 ≡ 1) × Climb rel low 1 s w = λ w seen. let a = spread.added w (clear w) seen in (a.1, climb_one s w a.2 (subst (λ k. rel k w ≡ Provider) a.3 a.4)) in
      record {
        real = λ w seen. let f = first w seen in (subst (λ n. Climb rel low n s w) (sym f.0) f.1, omega (arith, f.0));
        least = λ m w h c.
            let seen : 0 < get_or after w 0 = spread.all s w refl c.ends (only c.over w m c.long h c.chain) in
            (seen, omega (arith, (first w seen).0, c.long));
      }
    where
      only : (xs : List ℕ) (w m : ℕ) → length xs + 1 ≡ m → m ≤ 1 → Chain rel s xs w → rel s w ≡ Provider
      only [] w m e h c = c
      only (x ∷ xs) w m e h c = let z : ⊥ = omega arith in elim z [ ]
