-- One neighbour after another is told. Assumes nothing.
use Rattle.std.proofs.Common.{◌≡◌, ℕ, ◌+◌, ◌<◌, Bool, true, cond, not, ◌&&◌, ◌||◌, eqb, ltb, None, sym, ap, ◌∙◌, ⊎_elim, arith}
use Rattle.std.proofs.lemmas.Bool.{cases_Bool, cases_eq, cond-true}
use Rattle.std.proofs.lemmas.Bool.Decides.{nat_tests}
use Rattle.selection.specs.Rows.{Rows, with_row}
use Rattle.model.specs.Export.{same_saying}
use Rattle.model.specs.Selection.{Said}

-- the rows after the neighbours below k were told what `says` has for each, if their link is up
abbrev pub Below : Rows → ℕ → ℕ → (ℕ → Bool) → (ℕ → Said) → ℕ → Rows → Type 0
Below before n block up says k rows = (b j : ℕ) → rows b j ≡ cond (eqb b block && ltb b n && ltb j k && up j) (says j) (before b j)

-- to which of them that was something else
abbrev pub Heard : Rows → ℕ → ℕ → (ℕ → Bool) → (ℕ → Said) → ℕ → (ℕ → Bool) → Type 0
Heard before n block up says k whom = (j : ℕ) → whom j ≡ (ltb block n && ltb j k && up j && not (same_saying (says j) (before block j)))

-- one more neighbour, k, which is told t if its link is up, and added if that was something else
module _ (before : Rows) (n block : ℕ) (up : ℕ → Bool) (says : ℕ → Said) (k : ℕ) (rows : Rows) (whom : ℕ → Bool) (inv : Below before n block up says k rows) (heard : Heard before n block up says k whom) (m : ℕ) (same : m ≡ n) (h : k < 64) (t : Said) (is : says k ≡ cond (up k) t None) where
  next_below : (new : Rows) → ((b j : ℕ) → new b j ≡ cond (up k && (ltb block m && ltb k 64)) (with_row rows block k t b j) (rows b j)) → Below before n block up says (k + 1) new
  next_below new after b j =
      let i = inv b j in
      let a = after b j in
      ⊎_elim (λ e. let v = ap up e in let s = ap says e ∙ is in grind (arith, nat_tests, i, a, v, s)) (λ ne. grind (arith, nat_tests, i, a)) (cases_eq j k)

  same_test : (j : ℕ) → j ≡ k → up k ≡ true → same_saying (says j) (before block j) ≡ same_saying t (rows block k)
  same_test j e u =
      let i = inv block k in
      let r : rows block k ≡ before block k = grind (arith, nat_tests, i) in
      let s = is ∙ cond-true (up k) t None u in
      (λ l. same_saying (says (e l)) (before block (e l))) ∙ (λ l. same_saying (s l) (sym r l))

  next_heard : (r : Bool) → r ≡ (up k && (ltb block m && ltb k 64 && not (same_saying t (rows block k)))) → (new : ℕ → Bool) → ((j : ℕ) → new j ≡ (whom j || (r && eqb j k))) → Heard before n block up says (k + 1) new
  next_heard r test new after j =
      let i = heard j in
      let a = after j in
      ⊎_elim
      (λ e. let v = ap up e in ⊎_elim (λ u. let s = same_test j e u in grind (arith, nat_tests, i, a, v, s, test)) (λ u. grind (arith, nat_tests, i, a, v, test)) (cases_Bool (up k)))
      (λ ne. grind (arith, nat_tests, i, a))
      (cases_eq j k)

  pub next : (r : Bool) → r ≡ (up k && (ltb block m && ltb k 64 && not (same_saying t (rows block k)))) → (new : Rows) → ((b j : ℕ) → new b j ≡ cond (up k && (ltb block m && ltb k 64)) (with_row rows block k t b j) (rows b j)) → (more : ℕ → Bool) → ((j : ℕ) → more j ≡ (whom j || (r && eqb j k))) → Below before n block up says (k + 1) new × Heard before n block up says (k + 1) more
  next r test new after more adds = (next_below new after, next_heard r test more adds)
