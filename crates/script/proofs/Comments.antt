-- A comment changes nothing. Assumes nothing.
use Rattle.std.proofs.Common.{◌≡◌, ℕ, Bool, true, false, cond, not, List, [], ◌∷◌, ◌++◌, refl, ap}
use Rattle.model.specs.Checks.{first_fault}
use Rattle.script.specs.declared.cause.Cause.TheVariants.{BadByte}
use Rattle.script.specs.Faults.{plain, words_checks}
use Rattle.script.specs.Laws.{CommentsSayNothing}
use Rattle.script.specs.Meaning.{judged, meaning}
use Rattle.script.specs.Parts.{before, content, is_mark, words}

content_on : (t : Bool) (b : ℕ) (f g : List ℕ) → f ≡ g → cond t [] (b ∷ f) ≡ cond t [] (b ∷ g)
content_on true b f g e = refl
content_on false b f g e = ap (λ l. b ∷ l) e

content_same : (line comment : List ℕ) → content (line ++ (35 ∷ comment)) ≡ content line
unfolding before
content_same [] comment = refl
content_same (b ∷ bs) comment = content_on (is_mark b) b _ _ (content_same bs comment)

pub comments_say_nothing_lem : CommentsSayNothing
comments_say_nothing_lem limits line comment =
    ap (λ l. judged (first_fault ((BadByte, not (plain l)) ∷ words_checks limits (words l))) (meaning (words l))) (content_same line comment)
