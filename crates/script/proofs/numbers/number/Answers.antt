-- Each turn reads one digit.
use Rattle.std.proofs.Common.{◌≡◌, ℕ, ◌+◌, ◌-◌, ◌*◌, List, get_or, drop, Some, sym, ap, ◌∙◌, arith}
use Rattle.std.specs.Option.{ok_or, option_map}
use Rattle.std.proofs.lemmas.List.{at_drop_more, at_drop_all}
use Rattle.script.specs.declared.cause.Cause.TheVariants.{NotANumber}
use Rattle.script.specs.Digits.{capped, value_after}
use Rattle.script.proofs.Values.{after_digit, after_other, capped_after}
use Rattle.script.proofs.numbers.number.Goals as goal

pub loop-byte-preserved : goal.loop-byte-preserved
loop-byte-preserved c =
    let w : List ℕ = c.args.word.now in
    let i : ℕ = c.loop-byte.byte-index in
    let m : ℕ = c.loop-byte.number in
    let next : capped c.with_digit-number.result ≡ capped (m * 10 + (get_or w i 0 - 48)) = omega (arith, c.with_digit-number.ensures) in (
      c.with_digit-number.type_inv,
      capped_after (drop (i + 1) w) _ _ next ∙
          ap (option_map capped) (sym (after_digit m (get_or w i 0) (drop (i + 1) w) (sym c.if-not-is_ascii_digit.ensures.value))) ∙
          sym (at_drop_more (λ l. option_map capped (value_after m l)) w i 0 c.loop-byte-test.true) ∙
          c.loop-byte.invariant.1,
    )

pub returns-then-not-is_ascii_digit : goal.returns-then-not-is_ascii_digit
returns-then-not-is_ascii_digit c =
    let w : List ℕ = c.args.word.now in
    let i : ℕ = c.loop-byte.byte-index in
    let m : ℕ = c.loop-byte.number in
    ap (λ o. ok_or o NotANumber)
    (ap (option_map capped) (sym (after_other m (get_or w i 0) (drop (i + 1) w) (sym c.if-not-is_ascii_digit.ensures.value))) ∙
    sym (at_drop_more (λ l. option_map capped (value_after m l)) w i 0 c.loop-byte-test.true) ∙
    c.loop-byte.invariant.1)

pub returns : goal.returns
unfolding value_after
returns c =
    let m : ℕ = c.loop-byte.number in
    let same : m ≡ capped m = omega (arith, c.loop-byte.invariant.0) in
    ap (λ v. ok_or (Some v) NotANumber) same ∙
    ap (λ o. ok_or o NotANumber)
    (sym (at_drop_all (λ l. option_map capped (value_after m l)) c.args.word.now c.loop-byte.byte-index c.loop-byte-test.false) ∙
    c.loop-byte.invariant.1)
