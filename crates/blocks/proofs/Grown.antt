-- Blocks stay in order where one more stands after them, against which nothing is said. Assumes nothing.
use Rattle.std.proofs.Common.{◌≡◌, ℕ, suc, ◌<◌, ◌≤◌, false, List, [], ◌∷◌, ◌++◌, length, get_or, None, sym, ap, ◌∙◌, ⊎_elim, arith}
use Rattle.std.proofs.lemmas.Bool.Decides.{nat_tests}
use Rattle.std.proofs.lemmas.Bool.{cases_eq, leb-false}
use Rattle.std.proofs.lemmas.List.{length_push, get_or_push, get_or_append_left}
use Rattle.blocks.specs.Ranges.{Orderly}
use Rattle.blocks.specs.Fit.{before, share, unfit}
use Rattle.blocks.specs.declared.block_list.Block.{Block}
use Rattle.blocks.specs.declared.block_list.methods.TheConstants.{MOST}

-- what it means that nothing is said against a block
pub record Fits (firsts lasts : List ℕ) (first last : ℕ) : Type 0 where
  pub rises : 0 < length firsts → get_or firsts (before firsts) 0 < first
  pub straight : first ≤ last
  pub room : length firsts < MOST
  pub apart : 0 < length firsts → get_or lasts (before firsts) 0 < first

pub fits : (firsts lasts : List ℕ) (block : Block) → Orderly firsts lasts → unfit firsts lasts block ≡ None → Fits firsts lasts block.first.0 block.last.0
fits firsts lasts block o e =
    let up : 0 < length firsts → get_or firsts (before firsts) 0 < block.first.0 = λ h. grind (arith, nat_tests) in
    let low : block.first.0 ≤ block.last.0 = grind (arith, nat_tests) in
    record {
      rises = up;
      straight = low;
      room = grind (arith, nat_tests);
      apart = λ h.
          let none : share (get_or firsts (before firsts) 0) (get_or lasts (before firsts) 0) block.first.0 block.last.0 ≡ false = grind (arith, nat_tests) in
          omega (arith, leb-false _ _ none, up h, o.each (before firsts) (omega arith), low);
    }

pub grown : (firsts lasts : List ℕ) (first last : ℕ) → Orderly firsts lasts → Fits firsts lasts first last → Orderly (firsts ++ first ∷ []) (lasts ++ last ∷ [])
grown firsts lasts first last o f =
    let long = length_push firsts first in
    let long' = length_push lasts last in
    record {
      few = omega (arith, f.room);
      same = omega (arith, o.same);
      each = λ b h. ⊎_elim
          (λ e. omega (arith, get_or_push firsts first 0 b (sym e), get_or_push lasts last 0 b (o.same ∙ sym e), f.straight))
          (λ ne. omega (arith, get_or_append_left firsts (first ∷ []) 0 b (omega arith), get_or_append_left lasts (last ∷ []) 0 b (omega (arith, o.same)), o.each b (omega arith)))
          (cases_eq b (length firsts));
      apart = λ b h. ⊎_elim
          (λ e. let same : b ≡ before firsts = omega arith in omega (arith, get_or_push firsts first 0 (suc b) (sym e), get_or_append_left lasts (last ∷ []) 0 b (omega (arith, o.same)), ap (λ k. get_or lasts k 0) same, f.apart (omega arith)))
          (λ ne. omega (arith, get_or_append_left firsts (first ∷ []) 0 (suc b) (omega arith), get_or_append_left lasts (last ∷ []) 0 b (omega (arith, o.same)), o.apart b (omega arith)))
          (cases_eq (suc b) (length firsts));
    }

pub stands : (firsts lasts firsts' lasts' : List ℕ) (block : Block) → firsts' ≡ firsts ++ block.first.0 ∷ [] → lasts' ≡ lasts ++ block.last.0 ∷ [] → unfit firsts lasts block ≡ None → Orderly firsts lasts → Orderly firsts' lasts'
stands firsts lasts firsts' lasts' block e f told o = rw (e, f) (grown firsts lasts block.first.0 block.last.0 o (fits firsts lasts block o told))
