use Rattle.std.proofs.Common.{◌≡◌, length, drop, ap, ◌∙◌, rules, arith}
use Rattle.script.specs.Next.{left_of}
use Rattle.script.specs.Parts.{is_feed}
use Rattle.script.proofs.Steps.{beyond, beyond_shorter}
use Rattle.script.proofs.script.Script.take_line.Goals as goal

pub invariant_of-self : goal.invariant_of-self
invariant_of-self c =
    let s = c.args.self.now in
    let rest = c.cut.ensures.back is_feed (λ b r h. search rules) in
    let left : c.after_feed.result.now ≡ beyond (left_of s) = c.after_feed.ensures ∙ ap (drop 1) rest in
    record { fits = omega (arith, s.fits, ap length left, beyond_shorter (left_of s) c.requires) }
