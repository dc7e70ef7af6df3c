-- Which fault of a turn is told. Assumes nothing.
use Rattle.std.proofs.Common.{◌≡◌, ℕ, Bool, true, false, cond, not, ◌||◌, Some, None, Option, refl, sym, ap, ◌∙◌, true≢false, ◌==◌, nat_le, arith}
use Rattle.std.specs.Option.{option_map}
use Rattle.model.specs.Relations.{related}
use Rattle.model.specs.World.{World}
use Rattle.model.specs.Hearing.{turning_fault}
use Rattle.model.specs.declared.fault.Fault.TheVariants.{NoSuchNetwork, NoLink}
use Rattle.speaker.specs.Answers.{RefusesTurn}
use Rattle.speaker.specs.Rule.{line_fault}
use Rattle.speaker.specs.declared.fault.Fault.{Fault}
use Rattle.speaker.specs.declared.fault.Fault.TheVariants.{Router, LineOfOthers}

-- of what is asked one after the other
abbrev pub asked : Bool → Bool → Bool → Option Fault
asked far others untied = cond far (Some (Router NoSuchNetwork)) (cond others (Some LineOfOthers) (cond untied (Some (Router NoLink)) None))

line_asked : (w : World) (i j other : ℕ) → line_fault w i j other ≡ asked (nat_le w.n j || nat_le w.n other) (not (other == j)) (not (related (w.rel i j)) || not (related (w.rel i other)))
line_asked w i j other = refl

far_asked : (far others untied : Bool) → far ≡ true → asked far others untied ≡ Some (Router NoSuchNetwork)
far_asked true others untied h = refl
far_asked false others untied h = absurd (true≢false (sym h))

others_asked : (far others untied : Bool) → far ≡ false → others ≡ true → asked far others untied ≡ Some LineOfOthers
others_asked true others untied h k = absurd (true≢false h)
others_asked false true untied h k = refl
others_asked false false untied h k = absurd (true≢false (sym k))

pub no_network : (n j other : ℕ) → (nat_le n j || nat_le n other) ≡ true → RefusesTurn n j other (Router NoSuchNetwork)
no_network n j other h w i e = far_asked _ _ _ (ap (λ m. nat_le m j || nat_le m other) e ∙ h)

pub of_others : (n j other : ℕ) → (nat_le n j || nat_le n other) ≡ false → (other == j) ≡ false → RefusesTurn n j other LineOfOthers
of_others n j other h k w i e = others_asked _ _ _ (ap (λ m. nat_le m j || nat_le m other) e ∙ h) (ap not k)

-- of a line of its own the fault is the router's
pub own_line : (w : World) (i j : ℕ) → line_fault w i j j ≡ option_map Router (turning_fault w i j)
own_line w i j = by (nat_le w.n j) (related (w.rel i j)) (j == j) (grind arith)
  where
    by : (far tied same : Bool) → same ≡ true → asked (far || far) (not same) (not tied || not tied) ≡ option_map Router (cond far (Some NoSuchNetwork) (cond (not tied) (Some NoLink) None))
    by far tied false h = absurd (true≢false (sym h))
    by true tied true h = refl
    by false true true h = refl
    by false false true h = refl
