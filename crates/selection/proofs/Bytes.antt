-- Tables whose rows say the same hold the same bytes. Assumes nothing.
use Rattle.std.proofs.Common.{◌≡◌, ℕ, suc, ◌≤◌, cond, eqb, List, [], ◌∷◌, length, get_or, take, Some, None, option_and_then, sym, refl, ap, ◌∙◌, ⊎_elim, arith}
use Rattle.std.specs.List.{slice_get}
use Rattle.std.proofs.Math.Bridge.{le_prop}
use Rattle.std.proofs.Math.Nat.{ℕ_set}
use Rattle.std.proofs.lemmas.List.{ext_get_or, get_or-take, nil_from_length}
use Rattle.std.proofs.lemmas.Bool.{cases_eq, cases_lt, cond-false, cond-true, eq-eqb, ne_eqb}
use Rattle.std.proofs.lemmas.Option.{none-some, same_Some}
use Rattle.selection.proofs.Lengths.{length_path}
use Rattle.model.specs.Paths.{path_over}
use Rattle.selection.specs.Laws.{SameBytes}
use Rattle.selection.specs.Paths.{path_of, row_at}
use Rattle.selection.specs.Rows.{Full, Padded, Wide, said}
use Rattle.selection.specs.declared.table.row.Row.{Row}
use mathlib.Core.HLevel.{is_prop→PathP}

said_nothing : (p : List ℕ) → length p ≡ 0 → said p ≡ None
said_nothing p e = cond-true (eqb (length p) 0) None (Some (path_over p)) (eq-eqb (length p) 0 e)

said_path : (p : List ℕ) → (length p ≡ 0 → ⊥) → said p ≡ Some (path_over p)
said_path p ne = cond-false (eqb (length p) 0) None (Some (path_over p)) (ne_eqb (length p) 0 ne)

same_said : (p q : List ℕ) → said p ≡ said q → p ≡ q
same_said p q e =
    ⊎_elim
    (λ a. ⊎_elim (λ b. nil_from_length p a ∙ sym (nil_from_length q b)) (λ b. absurd (none-some (path_over q) (sym (said_nothing p a) ∙ e ∙ said_path q b))) (cases_eq (length q) 0))
    (λ a. ⊎_elim (λ b. absurd (none-some (path_over p) (sym (said_nothing q b) ∙ sym e ∙ said_path p a))) (λ b. ap (λ x. x.networks) (same_Some (path_over p) (path_over q) (sym (said_path p a) ∙ e ∙ said_path q b))) (cases_eq (length q) 0))
    (cases_eq (length p) 0)

same_row : (r s : Row) → path_of r ≡ path_of s → r ≡ s
same_row r s e =
    λ i. record {
      length = size i;
      networks = networks i;
      full = is_prop→PathP (λ k. Full (networks k)) (λ k. ℕ_set (length (networks k)) 64) r.full s.full i;
      short = is_prop→PathP (λ k. size k ≤ 64) (λ k. le_prop) r.short s.short i;
      padded = is_prop→PathP (λ k. Padded (size k) (networks k)) (λ k p q l j h. ℕ_set (get_or (networks k) j 0) 0 (p j h) (q j h) l) r.padded s.padded i;
    }
  where
    path : take r.length r.networks ≡ take s.length s.networks
    path = same_said _ _ (ap (λ l. cond (eqb l 0) None (Some (path_over (take r.length r.networks)))) (length_path r) ∙ e ∙ sym (ap (λ l. cond (eqb l 0) None (Some (path_over (take s.length s.networks)))) (length_path s)))

    size : r.length ≡ s.length
    size = sym (length_path r) ∙ ap length path ∙ length_path s

    networks : r.networks ≡ s.networks
    networks =
        ext_get_or 0 r.networks s.networks (r.full ∙ sym s.full)
        (λ k _. ⊎_elim
        (λ h. sym (get_or-take r.length r.networks k 0 h) ∙ ap (λ p. get_or p k 0) path ∙ get_or-take s.length s.networks k 0 (let z = size in omega arith))
        (λ h. r.padded k h ∙ sym (s.padded k (let z = size in omega arith)))
        (cases_lt k r.length))

same_rows : (xs ys : List Row) → length xs ≡ length ys → ((j : ℕ) → option_and_then path_of (slice_get xs j) ≡ option_and_then path_of (slice_get ys j)) → xs ≡ ys
same_rows [] [] e h = refl
same_rows [] (y ∷ ys) e h = absurd (omega arith)
same_rows (x ∷ xs) [] e h = absurd (omega arith)
same_rows (x ∷ xs) (y ∷ ys) e h = λ i. same_row x y (h 0) i ∷ same_rows xs ys (omega arith) (λ j. h (suc j)) i

same_blocks : (xs ys : List (List Row)) → length xs ≡ length ys → Wide xs → Wide ys → ((b j : ℕ) → option_and_then path_of (row_at xs b j) ≡ option_and_then path_of (row_at ys b j)) → xs ≡ ys
same_blocks [] [] e wx wy h = refl
same_blocks [] (y ∷ ys) e wx wy h = absurd (omega arith)
same_blocks (x ∷ xs) [] e wx wy h = absurd (omega arith)
same_blocks (x ∷ xs) (y ∷ ys) e wx wy h =
    λ i. same_rows x y (wx 0 (omega arith) ∙ sym (wy 0 (omega arith))) (λ j. h 0 j) i ∷
    same_blocks xs ys (omega arith) (λ b l. wx (suc b) (omega arith)) (λ b l. wy (suc b) (omega arith)) (λ b j. h (suc b) j) i

pub same_bytes : SameBytes
same_bytes t u e same = same_blocks t.blocks.items u.blocks.items (sym t.blocks.ok.0 ∙ e ∙ u.blocks.ok.0) t.wide u.wide same
