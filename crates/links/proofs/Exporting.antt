-- What telling one block anew leaves, and whom it goes to. Assumes nothing.
use Rattle.std.proofs.Common.{◌≡◌, ℕ, Bool, cond, not, ◌&&◌, eqb, ltb, sym, refl, ap, ◌∙◌, ⊎_elim}
use Rattle.std.proofs.lemmas.Bool.{cases_eq, eq-eqb, ne_eqb}
use Rattle.model.specs.Selection.{Choice, Said}
use Rattle.model.specs.Export.{same_saying, tells}
use Rattle.model.specs.World.{World}
use Rattle.model.specs.Local.{Local, choice, retold, sends, tells_now}
use Rattle.model.specs.Hearing.{only}

module _ (w : World) (i block : ℕ) (s : Local) (c : Choice) (chosen : c ≡ choice w i s block) where
  row_is : (b k : ℕ) → cond (eqb b block && ltb b w.blocks && ltb k w.n && s.up k) (tells (w.rel i) s.up i k c) (s.advertised b k) ≡ (retold w i (only block) s).advertised b k
  row_is b k =
      ⊎_elim
      (λ e. ap (λ x. cond (eqb b block && ltb b w.blocks && ltb k w.n && s.up k) (tells (w.rel i) s.up i k x) (s.advertised b k)) (chosen ∙ ap (choice w i s) (sym e)))
      (λ ne. let no_one = ne_eqb b block ne in ap (λ t. cond (t && ltb b w.blocks && ltb k w.n && s.up k) (tells (w.rel i) s.up i k c) (s.advertised b k)) no_one ∙ ap (λ t. cond (t && ltb b w.blocks && ltb k w.n && s.up k) (tells_now w i s b k) (s.advertised b k)) (sym no_one))
      (cases_eq b block)

  abbrev pub left : (ℕ → ℕ → Said) → Local
  left rows = record { up = s.up; received = s.received; advertised = rows }

  pub retold_is : (rows : ℕ → ℕ → Said) → ((b k : ℕ) → rows b k ≡ cond (eqb b block && ltb b w.blocks && ltb k w.n && s.up k) (tells (w.rel i) s.up i k c) (s.advertised b k)) → left rows ≡ retold w i (only block) s
  retold_is rows h = λ x. record { up = s.up; received = s.received; advertised = λ b k. (h b k ∙ row_is b k) x }

  pub sends_is : (k : ℕ) (r : Bool) → r ≡ (ltb block w.blocks && ltb k w.n && s.up k && not (same_saying (tells (w.rel i) s.up i k c) (s.advertised block k))) → r ≡ sends w i (only block) s block k
  sends_is k r h =
      h ∙ ap (λ x. ltb block w.blocks && ltb k w.n && s.up k && not (same_saying (tells (w.rel i) s.up i k x) (s.advertised block k))) chosen ∙
      ap (λ t. t && ltb block w.blocks && ltb k w.n && s.up k && not (same_saying (tells_now w i s block k) (s.advertised block k))) (sym (eq-eqb block block refl))
