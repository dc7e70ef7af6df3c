-- What is left in flight falls with every move, so the telling ends. Assumes nothing.
use Rattle.std.proofs.Common.{◌≡◌, ℕ, zero, suc, ◌+◌, ◌-◌, ◌*◌, ◌^◌, ◌<◌, ◌≤◌, Bool, true, false, cond, not, ◌&&◌, ltb, List, [], sym, refl, ap, ◌∙◌, ⊎_elim, arith}
use native.Mathlib.Nat.{one-le-pow, pow-le-pow_right, pow-succ'}
use Rattle.std.proofs.lemmas.Bool.{and_left, and_parts, and_right, cases_Bool, cases_lt, cond_both, cond-false, eqb-true, not_from_true}
use Rattle.model.specs.Export.{same_saying}
use Rattle.model.proofs.Sayings.{same_saying_decides_lem}
use Rattle.model.specs.World.{World, Sound}
use Rattle.model.specs.Local.{Update, Local, due, sends, sent, tells_now}
use Rattle.model.specs.Hearing.{only, replaced, unless}
use Rattle.model.specs.Packets.{forwarded, Lookup}
use Rattle.model.specs.Run.{Item, update, packet, State, Move, Reach, Ends, onward, taken, updates}
use Rattle.model.specs.Steps.{hears, move, ends, appended, queued}
use Rattle.model.specs.PromiseLaws.{Stops}
use Rattle.model.specs.Levels.{Heights, level}
use Rattle.model.specs.Measure.{Falls, left, sum, weight}
use Rattle.convergence.proofs.Standing.{height, height_stands}
use Rattle.convergence.proofs.Decided.{lawful}
use Rattle.convergence.proofs.Dues.{due_is}
use Rattle.convergence.proofs.Keeping.{Kept}
use Rattle.convergence.proofs.Delivery.{replaced_takes, unrefused}
use Rattle.convergence.proofs.Steps.{run_kept}
use Rattle.convergence.proofs.Coherence.{Coherent, run_coherent}
use Rattle.convergence.proofs.Sums.{sum_le}
use Rattle.convergence.proofs.Weighing.{left_then, weigh, weigh_gather}
use Rattle.convergence.proofs.Hops.{onward_weighs}

-- an update on each of n channels of higher levels weighs less than one
lighter : (n lev : ℕ) → lev < 2 * n → n * (n + 1) ^ (2 * n - suc lev) < (n + 1) ^ (2 * n - lev)
lighter n lev h =
    let m = 2 * n - suc lev in
    let e : (n + 1) ^ (2 * n - lev) ≡ (n + 1) * (n + 1) ^ m = ap (λ y. (n + 1) ^ y) (next n lev h) ∙ pow-succ' (n + 1) m in
    let p : 1 ≤ (n + 1) ^ m = one-le-pow m (n + 1) (omega arith) in
    omega (arith, e, p)
  where
    next : (n lev : ℕ) → lev < 2 * n → 2 * n - lev ≡ suc (2 * n - suc lev)
    next n lev h = omega arith

module _ (w : World) (sound : Sound w) (height : ℕ → ℕ) (stands : Heights w height) (i j : ℕ) (hi : i < w.n) (hj : j < w.n) (u : Update) (l : Local) (coherent : Coherent w j l) where
  abbrev then : Local
  then = replaced i u l

  -- what is due to k of block b, whether it is sent, and what all that is sent to k weighs
  abbrev owed : ℕ → ℕ → Bool
  owed b k = due w (only u.block) then b k

  abbrev goes : ℕ → ℕ → Bool
  goes b k = sends w j (only u.block) then b k

  abbrev sent_weight : ℕ → ℕ
  sent_weight k = weigh w height j k (updates (sent w j (only u.block) then k))

  -- what an update weighs at a level, and at the level above that of what was heard
  abbrev at_level : ℕ → ℕ
  at_level lev = (w.n + 1) ^ (2 * w.n - lev)

  abbrev above : ℕ
  above = at_level (suc (level w height i j))

  -- at no higher level than that of what was heard, the same is told as before
  same_told : (k : ℕ) → k < w.n → level w height j k ≤ level w height i j → tells_now w j then u.block k ≡ tells_now w j l u.block k
  same_told k hk low =
      (lawful w sound height stands u.block).law l.up j k (then.received u.block) (l.received u.block) hj hk
      (λ m hm lower. (replaced_takes i u l).others u.block m (λ e. let z = ap (λ y. level w height y j) e in omega (arith, z, lower, low)))

  not_sent : (k : ℕ) → level w height j k ≤ level w height i j → goes u.block k ≡ false
  not_sent k low = ⊎_elim (λ d. and_right _ _ (not_from_true _ ((same_saying_decides_lem (tells_now w j then u.block k) (l.advertised u.block k)).1 (told d)))) (λ d. and_left _ _ d) (cases_Bool (owed u.block k))
    where
      told : owed u.block k ≡ true → tells_now w j then u.block k ≡ l.advertised u.block k
      told d = let h = due_is w (only u.block) then u.block k d in same_told k h.there low ∙ sym (coherent.told u.block k h.block h.there h.up)

  of_block_only : (k b : ℕ) → goes b k ≡ true → b ≡ u.block
  of_block_only k b e = eqb-true b u.block (due_is w (only u.block) then b k (and_parts (owed b k) (not (same_saying (tells_now w j then b k) (l.advertised b k))) e).0).one

  sent_weighs : (k : ℕ) → sent_weight k ≡ cond (ltb u.block w.blocks && goes u.block k) (at_level (level w height j k)) 0
  sent_weighs k =
      weigh_gather (weight w.n (level w height j k)) (at_level (level w height j k)) (λ v. refl)
      (λ b. goes b k) (λ b. tells_now w j then b k) u.block (of_block_only k) w.blocks

  sent_light : (k : ℕ) → sent_weight k ≤ above
  sent_light k =
      ⊎_elim
      (λ high. let p = pow-le-pow_right {n = w.n + 1} (omega arith) {i = 2 * w.n - level w height j k} {j = 2 * w.n - suc (level w height i j)} (omega arith) in
      cond_both (ltb u.block w.blocks && goes u.block k) (at_level (level w height j k)) 0 (λ y. sent_weight k ≡ y → sent_weight k ≤ above) (λ _ e. omega (arith, e, p)) (λ _ e. omega (arith, e)) (sent_weighs k))
      (λ low. let e = sent_weighs k ∙ cond-false _ (at_level (level w height j k)) 0 (and_right (ltb u.block w.blocks) _ (not_sent k low)) in omega (arith, e))
      (cases_lt (level w height i j) (level w height j k))

  all_light : sum w.n sent_weight < weight w.n (level w height i j) (update u)
  all_light =
      let a = sum_le w.n sent_weight above (λ k _. sent_light k) in
      let b = lighter w.n (level w height i j) ((lawful w sound height stands u.block).low i j hi hj) in
      omega (arith, a, b)

falls_at : (w : World) (height : ℕ → ℕ) (find : Lookup) → Sound w → Heights w height → {s t : State} → Kept w s → ((i : ℕ) → Coherent w i (s.locals i)) → Move w find s t → left w height t < left w height s
falls_at w height find sound stands h c (hears s i j (update u) rest hi hj e) =
    let more : ℕ → List Item = λ k. updates (sent w j (only u.block) (replaced i u (s.locals j)) k) in
    let none = unrefused w sound s h i j u rest e in
    let f : (taken w find i j (update u) rest s).flight ≡ appended j more (queued i j rest s.flight) = (λ x. appended j (λ k. updates (unless (none x) [] (sent w j (only u.block) (replaced i u (s.locals j)) k))) (queued i j rest s.flight)) in
    let a = left_then w height s i j (update u) rest hi hj e more (taken w find i j (update u) rest s) f in
    let b = all_light w sound height stands i j hi hj u (s.locals j) (c j) in
    omega (arith, a, b)
falls_at w height find sound stands h c (hears s i j (packet p) rest hi hj e) =
    let a = left_then w height s i j (packet p) rest hi hj e (onward (forwarded w find j (s.locals j) p)) (taken w find i j (packet p) rest s) refl in
    let b = onward_weighs w find j (s.locals j) p (λ k. level w height j k) in
    omega (arith, a, b)

pub falls : Falls
falls w height find sound stands s t run m = falls_at w height find sound stands (run_kept w find sound run) (run_coherent w find run) m

-- a bound on what is left bounds the moves
ends_within : (w : World) (find : Lookup) (sound : Sound w) (b : ℕ) (s : State) → Reach w find s → left w (height w sound) s < b → Ends w find s
ends_within w find sound zero s run l = absurd (omega arith)
ends_within w find sound (suc b) s run l =
    ends s (λ t m. ends_within w find sound b t (move run m) (let f = falls w (height w sound) find sound (height_stands w sound) s t run m in omega (arith, f, l)))

pub stops : Stops
stops w find sound s run = ends_within w find sound (suc (left w (height w sound) s)) s run (omega arith)
