-- The first word begins where the blanks end.
use Rattle.std.proofs.Common.{◌<◌, ◌∷◌, length, sym, ◌∙◌, subst, rules, arith}
use Rattle.std.proofs.lemmas.List.{nil_from_length}
use Rattle.std.proofs.lemmas.Bool.{eqb-true, eqb-false}
use Rattle.script.specs.Parts.{before, from, is_blank, is_solid, words}
use Rattle.script.proofs.Cuts.{word_of, no_word}
use Rattle.script.proofs.cut.split_word.Goals as goal

pub returns-then-is_empty : goal.returns-then-is_empty
returns-then-is_empty c =
    let solid = c.cut.ensures.back is_solid (λ b r h. search rules) in
    no_word c.args.bytes.now (sym solid ∙ nil_from_length _ (eqb-true _ 0 (sym c.if-is_empty.ensures)))

pub returns : goal.returns
returns c =
    let rest = c.cut.ensures.back is_solid (λ b r h. search rules) in
    let word = c.cut-2.ensures.front is_blank (λ b r h. search rules) in
    let after = c.cut-2.ensures.back is_blank (λ b r h. search rules) in
    let some : 0 < length c.cut.result.1.now = omega (arith, eqb-false (length c.cut.result.1.now) 0 (sym c.if-is_empty.ensures)) in
    word_of c.args.bytes.now (subst (λ l. 0 < length l) rest some) ∙
    (λ i. before is_blank (sym rest i) ∷ words (from is_blank (sym rest i))) ∙
    (λ i. sym word i ∷ words (sym after i))
