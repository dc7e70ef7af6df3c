-- All that a script says, line by line. Assumes nothing.
use Rattle.std.proofs.Common.{◌≡◌, ℕ, ◌+◌, ◌<◌, Bool, true, false, cond, List, [], ◌∷◌, ◌++◌, length, drop, Some, None, Ok, Err, Option, Result, sym, refl, ap, ◌∙◌, arith, length-append}
use Rattle.script.specs.declared.cause.Cause.{Cause}
use Rattle.script.specs.Laws.{LineByLine, NextByNext}
use Rattle.script.specs.Meaning.{read_line}
use Rattle.script.specs.Next.{Ahead, Reader, ahead_by, ahead_in, reached}
use Rattle.script.specs.Parts.{Feedless, Line, before, from, is_feed, lines, longer}
use Rattle.script.specs.Whole.{Entry, entries_by, entries_in, listed_by, noted}
use Rattle.script.proofs.Cuts.{before_stop, before_on, from_on}
use Rattle.script.proofs.Steps.{beyond, first_line}

-- each line is before what follows it
abbrev Follows : List Line → Type 0
Follows [] = Unit {0}
Follows (l ∷ ls) = (lines l.after ≡ ls) × Follows ls

follows_longer : (b : ℕ) (ls : List Line) → Follows ls → Follows (longer b ls)
unfolding lines
follows_longer b [] h = (refl, tt)
follows_longer b (l ∷ ls) h = h

follows_on : (t : Bool) (b : ℕ) (bs : List ℕ) → Follows (lines bs) → Follows (cond t (record { text = []; after = bs } ∷ lines bs) (longer b (lines bs)))
follows_on true b bs h = (refl, h)
follows_on false b bs h = follows_longer b (lines bs) h

follows : (bs : List ℕ) → Follows (lines bs)
unfolding lines
follows [] = tt
follows (b ∷ bs) = follows_on (is_feed b) b bs (follows bs)

module _ {T : Type 0} (reads : Reader T) where
  noted_reached : (r : Result (Option T) Cause) (k : ℕ) (after : List ℕ) (es : List (Entry T)) (a : Ahead T) → es ≡ listed_by reads a → es ≡ entries_by reads k after → noted r k es ≡ listed_by reads (reached r k after a)
  noted_reached (Ok None) k after es a h e = h
  noted_reached (Ok (Some c)) k after es a h e = ap (λ l. record { line = k; says = Ok c } ∷ l) e
  noted_reached (Err c) k after es a h e = ap (λ l. record { line = k; says = Err c } ∷ l) e

  next_in : (k : ℕ) (ls : List Line) → Follows ls → entries_in reads k ls ≡ listed_by reads (ahead_in reads k ls)
  unfolding ahead_in entries_in lines
  next_in k [] h = refl
  next_in k (l ∷ ls) h = noted_reached (reads l.text) (k + 1) l.after _ _ (next_in (k + 1) ls h.1) (ap (entries_in reads (k + 1)) (sym h.0))

  pub next_by_next_of : (k : ℕ) (bs : List ℕ) → entries_by reads k bs ≡ listed_by reads (ahead_by reads k bs)
  next_by_next_of k bs = next_in k (lines bs) (follows bs)

  -- the same of what is known to come next
  pub entries_next : (k : ℕ) (bs : List ℕ) (a : Ahead T) → ahead_by reads k bs ≡ a → entries_by reads k bs ≡ listed_by reads a
  entries_next k bs a e = next_by_next_of k bs ∙ ap (listed_by reads) e

  pub entries_more : (k : ℕ) (bs : List ℕ) → 0 < length bs → entries_by reads k bs ≡ noted (reads (before is_feed bs)) (k + 1) (entries_by reads (k + 1) (beyond bs))
  unfolding entries_in
  entries_more k [] h = absurd (omega arith)
  entries_more k (b ∷ bs) h = ap (entries_in reads k) (first_line b bs)

pub next_by_next : NextByNext
next_by_next limits = next_by_next_of (read_line limits)

abbrev ByFeed : List ℕ → List ℕ → Type 0
ByFeed line script = (before is_feed (line ++ (10 ∷ script)) ≡ line) × (from is_feed (line ++ (10 ∷ script)) ≡ 10 ∷ script)

by_feed_on : (t : Bool) (b : ℕ) (bs script : List ℕ) → is_feed b ≡ t → Feedless (b ∷ bs) → (Feedless bs → ByFeed bs script) → ByFeed (b ∷ bs) script
by_feed_on true b bs script e h on =
    let none = before_stop is_feed b bs e in
    let z : ◌≡◌ {A = ℕ} 0 1 = cc in absurd (omega arith)
by_feed_on false b bs script e h on =
    let more = before_on is_feed b bs e in
    let bare : Feedless bs = cc in
    let rest = on bare in
    (before_on is_feed b (bs ++ (10 ∷ script)) e ∙ ap (λ l. b ∷ l) rest.0, from_on is_feed b (bs ++ (10 ∷ script)) e ∙ rest.1)

by_feed : (line script : List ℕ) → Feedless line → ByFeed line script
unfolding before from
by_feed [] script h = (refl, refl)
by_feed (b ∷ bs) script h = by_feed_on (is_feed b) b bs script refl h (by_feed bs script)

pub line_by_line_of : {T : Type 0} (reads : Reader T) (k : ℕ) (line script : List ℕ) → Feedless line → entries_by reads k (line ++ (10 ∷ script)) ≡ noted (reads line) (k + 1) (entries_by reads (k + 1) script)
line_by_line_of reads k line script h =
    let cut = by_feed line script h in
    entries_more reads k (line ++ (10 ∷ script)) (omega (arith, length-append line (10 ∷ script))) ∙
    (λ i. noted (reads (cut.0 i)) (k + 1) (entries_by reads (k + 1) (drop 1 (cut.1 i))))

pub line_by_line : LineByLine
line_by_line limits = line_by_line_of (read_line limits)
