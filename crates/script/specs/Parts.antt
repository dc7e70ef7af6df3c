-- How the text of a script is cut: lines, what counts in a line, and words. Assumes nothing.
use Rattle.std.specs.Prelude.{◌≡◌, ℕ, Bool, true, cond, not, ◌||◌, List, [], ◌∷◌, ◌==◌}

-- a line feed
abbrev pub feed : ℕ
feed = 10

abbrev pub is_feed : ℕ → Bool
is_feed b = b == feed

-- `#`, after which all is comment
abbrev pub mark : ℕ
mark = 35

abbrev pub is_mark : ℕ → Bool
is_mark b = b == mark

-- a space, a tab or a carriage return
abbrev pub is_blank : ℕ → Bool
is_blank b = b == 32 || b == 9 || b == 13

abbrev pub is_solid : ℕ → Bool
is_solid b = not (is_blank b)

-- whatever a call answers of a byte is what p says of it
abbrev pub Computes : (ℕ → Bool → Type 0) → (ℕ → Bool) → Type 0
Computes answers p = (b : ℕ) (r : Bool) → answers b r → r ≡ p b

-- what stands before the first byte that passes a test, and the rest from that byte on
unfoldable pub before : (ℕ → Bool) → List ℕ → List ℕ
before p [] = []
before p (b ∷ bs) = cond (p b) [] (b ∷ before p bs)

unfoldable pub from : (ℕ → Bool) → List ℕ → List ℕ
from p [] = []
from p (b ∷ bs) = cond (p b) (b ∷ bs) (from p bs)

-- what counts in a line
abbrev pub content : List ℕ → List ℕ
content l = before is_mark l

-- a word's first byte, before what follows it
abbrev pub opened : ℕ → List (List ℕ) → List (List ℕ)
opened b [] = (b ∷ []) ∷ []
opened b (w ∷ ws) = (b ∷ w) ∷ ws

-- no word goes on here: there is a blank, or nothing
abbrev pub ended : List ℕ → Bool
ended [] = true
ended (b ∷ bs) = is_blank b

-- the longest runs without a blank
unfoldable pub words : List ℕ → List (List ℕ)
words [] = []
words (b ∷ bs) = cond (is_blank b) (words bs) (cond (ended bs) ((b ∷ []) ∷ words bs) (opened b (words bs)))

-- no feed stands in it
abbrev pub Feedless : List ℕ → Type 0
Feedless l = before is_feed l ≡ l

-- a line without its feed, and what follows it
pub record Line : Type 0 where
  pub text : List ℕ
  pub after : List ℕ

-- a byte before the first line
abbrev pub longer : ℕ → List Line → List Line
longer b [] = record { text = b ∷ []; after = [] } ∷ []
longer b (l ∷ ls) = record { text = b ∷ l.text; after = l.after } ∷ ls

-- a feed ends a line; the last may lack it
unfoldable pub lines : List ℕ → List Line
lines [] = []
lines (b ∷ bs) = cond (is_feed b) (record { text = []; after = bs } ∷ lines bs) (longer b (lines bs))
