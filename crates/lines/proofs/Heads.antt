-- The next entry of a list of turns. Assumes nothing.
use Rattle.std.proofs.Common.{◌≡◌, ℕ, Bool, false, List, Some, None, Ok, Err, Option, Result, sym, refl, ap, ◌∙◌}
use Rattle.std.proofs.lemmas.Bool.{cond-true, cond-false}
use Rattle.model.specs.Relations.{related}
use Rattle.relations.specs.Sound.{networks, relation}
use Rattle.relations.specs.declared.sound.Relations.{Relations}
use Rattle.model.specs.Stable.{Links}
use Rattle.script.specs.Next.{line_of}
use Rattle.script.specs.Turns.{turn_entries}
use Rattle.script.specs.Whole.{Entry, headed}
use Rattle.script.specs.declared.cause.Cause as script
use Rattle.script.specs.declared.command.Turn.{Turn}
use Rattle.script.specs.declared.script.Script.{Script}
use Rattle.lines.specs.After.{Linked, Outcome, at_line, links_after, taken}
use Rattle.lines.specs.declared.cause.Cause.{Cause}
use Rattle.lines.specs.declared.cause.Cause.TheVariants.{Line, NoLink}

module _ (r : Relations) (links : Links) where
  -- what comes next is read
  pub next_is : (n k k' : ℕ) (bs left : List ℕ) (a b : Result (Option Turn) script.Cause) → n ≡ networks r → turn_entries n k bs ≡ headed a k' (turn_entries n k' left) → a ≡ b → links_after r links (turn_entries (networks r) k bs) ≡ links_after r links (headed b k' (turn_entries (networks r) k' left))
  next_is n k k' bs left a b is whole e =
      (λ i. links_after r links (turn_entries (sym is i) k bs)) ∙
      ap (links_after r links) whole ∙
      (λ i. links_after r links (headed (e i) k' (turn_entries (is i) k' left)))

  pub at_end : (k : ℕ) (es : List (Entry Turn)) → links_after r links (headed (Ok None) k es) ≡ Ok links
  unfolding links_after
  at_end k es = refl

  pub at_fault : (k : ℕ) (c : script.Cause) (es : List (Entry Turn)) → links_after r links (headed (Err c) k es) ≡ Err (k, Line c)
  unfolding links_after
  at_fault k c es = refl

  pub at_no_link : (k : ℕ) (t : Turn) (es : List (Entry Turn)) → related (relation r t.first t.second) ≡ false → links_after r links (headed (Ok (Some t)) k es) ≡ Err (k, NoLink)
  unfolding links_after
  at_no_link k t es e = cond-false (related (relation r t.first t.second)) _ _ e

  pub at_turn : (k : ℕ) (t : Turn) (es : List (Entry Turn)) (next : Links) → Linked r t links next → links_after r links (headed (Ok (Some t)) k es) ≡ links_after r next es
  unfolding links_after
  at_turn k t es next h = cond-true (related (relation r t.first t.second)) _ _ h.0 ∙ ap (λ l. links_after r l es) (λ i a b. sym (h.1 a b) i)

  -- a fault is what is yet to come
  pub as_fault : (s : Script) (result : Result Bool Cause) (left : List ℕ) (c : Cause) (out : Outcome) → out ≡ Err (line_of s, c) → result ≡ Err c → out ≡ taken (at_line s) r result links (line_of s) left
  as_fault s result left c out h e = h ∙ ap (λ x. taken (at_line s) r x links (line_of s) left) (sym e)
