-- The first byte that passes the test is the end of the run.
use Rattle.std.proofs.Common.{◌≡◌, ℕ, ◌≤◌, Bool, true, false, cond, ltb, List, Some, None, length, take, drop, unwrap_or, sym, ap, ◌∙◌, refl, rules, arith}
use Rattle.std.specs.List.{position_or_len}
use Rattle.std.proofs.lemmas.Bool.{ltb-false}
use Rattle.std.proofs.lemmas.Iterator.{YieldsList-from_slice}
use Rattle.std.proofs.lemmas.Iterator.Search.{position_from_yields_List}
use Rattle.std.proofs.lemmas.List.Sums.{prefix_len-le-length}
use Rattle.script.specs.Parts.{Computes}
use Rattle.script.proofs.Cuts.{before_is, from_is}
use Rattle.script.proofs.cut.cut.Goals as goal

or_length : (t : Bool) (i n : ℕ) → ltb i n ≡ t → i ≤ n → unwrap_or (cond t (Some i) None) n ≡ i
or_length true i n e h = refl
or_length false i n e h = omega (arith, ltb-false i n e)

pub returns : goal.returns
returns g c =
    let bs : List ℕ = c.args.bytes.now in
    let end : (p : ℕ → Bool) → Computes (goal.F-post g c.args.stop) p → c.unwrap_or-end.result ≡ position_or_len p bs = λ p h.
    let found = position_from_yields_List p _ _ c.position.result c.position.ensures.ran (YieldsList-from_slice bs cc) (λ x b q k. search rules) in
    c.unwrap_or-end.ensures ∙ ap (λ o. unwrap_or o (length bs)) found ∙ or_length (ltb (position_or_len p bs) (length bs)) _ _ refl (prefix_len-le-length _ bs) in
    record {
      front = λ p h. c.split_at.ensures.front ∙ ap (λ m. take m bs) (end p h) ∙ sym (before_is p bs);
      back = λ p h. c.split_at.ensures.back ∙ ap (λ m. drop m bs) (end p h) ∙ sym (from_is p bs);
    }
