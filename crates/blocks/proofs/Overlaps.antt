-- A block that rises above the one before shares an address with an earlier one only if it does with that one. Assumes nothing.
use Rattle.std.proofs.Common.{◌≡◌, ℕ, zero, suc, ◌+◌, ◌*◌, ◌<◌, ◌≤◌, Bool, true, false, not, ◌&&◌, ◌||◌, leb, ltb, List, length, get_or, None, refl, sym, ap, ◌∙◌, ⊎_elim, arith}
use Rattle.std.proofs.lemmas.Bool.{cases_lt, lt-ltb, leb-false, ltb-true, or_parts}
use Rattle.std.proofs.lemmas.Bool.Decides.{nat_tests}
use Rattle.model.specs.Checks.{first_fault}
use Rattle.blocks.specs.Fit.{before, share}
use Rattle.blocks.proofs.Apart.{share_none}
use Rattle.blocks.specs.File.{first, last, home, each}
use Rattle.blocks.specs.Faults.{rises, overlapped, block_checks, CleanBlocks}
use Rattle.blocks.proofs.Listed.{length_each, each_at}

-- what it means that nothing is told of a block
pub record Sound (n : ℕ) (bs : List ℕ) (k : ℕ) : Type 0 where
  pub whole : 3 + 9 * k + 9 ≤ length bs
  pub network : home bs k < n
  pub above : rises bs k ≡ true
  pub straight : first bs k ≤ last bs k
  pub apart : overlapped bs (first bs k) (last bs k) k ≡ false

pub sound : (n : ℕ) (bs : List ℕ) (k : ℕ) → first_fault (block_checks n bs k) ≡ None → Sound n bs k
sound n bs k e = record {
  whole = grind (arith, nat_tests);
  network = grind (arith, nat_tests);
  above = grind (arith, nat_tests);
  straight = grind (arith, nat_tests);
  apart = grind (arith, nat_tests);
}

share_below : (first last first' last' : ℕ) → share first last first' last' ≡ false → first < first' → first ≤ last → first' ≤ last' → last < first'
share_below first last first' last' e a b c = omega (arith, leb-false _ _ e, a, b, c)

-- of blocks with no fault an earlier one ends before a later begins
pub ends_before : (n : ℕ) (bs : List ℕ) (k : ℕ) → CleanBlocks n bs (suc k) → (b : ℕ) → b < k → last bs b < first bs k
unfolding overlapped
ends_before n bs zero clean b h = absurd (omega arith)
ends_before n bs (suc k) clean b h =
    let here = sound n bs (suc k) (clean (suc k) (omega arith)) in
    let up : first bs k < first bs (suc k) = ltb-true _ _ here.above in
    ⊎_elim
    (λ l. omega (arith, up, ends_before n bs k (λ m g. clean m (omega arith)) b l))
    (λ l.
    let same : b ≡ k = omega arith in
    let there = sound n bs k (clean k (omega arith)) in
    let next = share_below (first bs k) (last bs k) (first bs (suc k)) (last bs (suc k)) (or_parts _ _ here.apart).0 up there.straight here.straight in
    omega (arith, next, ap (last bs) same))
    (cases_lt b k)

pub none_overlapped : (bs : List ℕ) (f l k : ℕ) → ((b : ℕ) → b < k → last bs b < f) → overlapped bs f l k ≡ false
unfolding overlapped
none_overlapped bs f l zero h = refl
none_overlapped bs f l (suc k) h =
    (λ i. share_none (first bs k) (last bs k) f l (h k (omega arith)) i || none_overlapped bs f l k (λ b g. h b (omega arith)) i)

or_none : (x y : Bool) → y ≡ false → x ≡ (x || y)
or_none true y e = refl
or_none false y e = sym e

-- what the list of the first k blocks is asked of the next is what the bytes say of block k
module _ (n : ℕ) (bs : List ℕ) (firsts lasts : List ℕ) where
  pub not_above : (k a : ℕ) → firsts ≡ each (first bs) k → a ≡ first bs k → (ltb 0 (length firsts) && leb a (get_or firsts (before firsts) 0)) ≡ not (rises bs k)
  not_above zero a e f = let long : length firsts ≡ 0 = ap length e ∙ length_each (first bs) 0 in grind (arith, nat_tests)
  not_above (suc k) a e f =
      let long : length firsts ≡ suc k = ap length e ∙ length_each (first bs) (suc k) in
      let at : before firsts ≡ k = omega arith in
      let there : get_or firsts (before firsts) 0 ≡ first bs k = (λ i. get_or (e i) (at i) 0) ∙ each_at (first bs) (suc k) k (omega arith) in
      rw (there, f) (grind (arith, nat_tests))

  pub shares : (k a z : ℕ) → firsts ≡ each (first bs) k → lasts ≡ each (last bs) k → a ≡ first bs k → z ≡ last bs k → CleanBlocks n bs k → rises bs k ≡ true → (ltb 0 (length firsts) && share (get_or firsts (before firsts) 0) (get_or lasts (before firsts) 0) a z) ≡ overlapped bs (first bs k) (last bs k) k
  unfolding overlapped
  shares zero a z e g f l clean up = let long : length firsts ≡ 0 = ap length e ∙ length_each (first bs) 0 in grind (arith, nat_tests)
  shares (suc k) a z e g f l clean up =
      let long : length firsts ≡ suc k = ap length e ∙ length_each (first bs) (suc k) in
      let at : before firsts ≡ k = omega arith in
      let there : get_or firsts (before firsts) 0 ≡ first bs k = (λ i. get_or (e i) (at i) 0) ∙ each_at (first bs) (suc k) k (omega arith) in
      let there' : get_or lasts (before firsts) 0 ≡ last bs k = (λ i. get_or (g i) (at i) 0) ∙ each_at (last bs) (suc k) k (omega arith) in
      let others = none_overlapped bs (first bs (suc k)) (last bs (suc k)) k (λ b h. omega (arith, ltb-true _ _ up, ends_before n bs k clean b h)) in
      (λ i. ltb 0 (long i) && share (there i) (there' i) (f i) (l i)) ∙
      (λ i. lt-ltb 0 (suc k) (omega arith) i && share (first bs k) (last bs k) (first bs (suc k)) (last bs (suc k))) ∙
      or_none _ _ others
