-- Which turn of a link is the last. Assumes nothing.
use Rattle.std.proofs.Common.{◌≡◌, ℕ, Bool, true, false, cond, List, [], ◌∷◌, ◌++◌, Ok, Err, Result, ◌⊎◌, inl, inr, sym, refl, ap, ◌∙◌, arith}
use Rattle.std.specs.Bool.{MatchBool}
use Rattle.std.specs.List.{AllByRecursion}
use Rattle.std.proofs.lemmas.Bool.{both_ways, cond-true, cond-false}
use Rattle.model.specs.Relations.{related}
use Rattle.relations.specs.Sound.{networks, relation}
use Rattle.relations.specs.declared.sound.Relations.{Relations}
use Rattle.model.specs.Stable.{Links}
use Rattle.script.specs.Turns.{turn_entries}
use Rattle.script.specs.Whole.{Entry}
use Rattle.script.specs.declared.cause.Cause as script
use Rattle.script.specs.declared.command.Turn.{Turn}
use Rattle.stable.specs.Linked.{with_link}
use Rattle.lines.specs.After.{Outcome, all_down, links_after, turned}
use Rattle.lines.specs.Laws.{Elsewhere, FaultsAreTheFirst, FirstFault, Good, LastIsUp, LastTurned, NoneIsPassedOver, Wrong, of_link}
use Rattle.lines.specs.declared.cause.Cause.{Cause}
use Rattle.lines.specs.declared.cause.Cause.TheVariants.{Line, NoLink}

module _ (i j : ℕ) where
  -- how a link stands after an entry, and after some
  abbrev one_more : Bool → Result Turn script.Cause → Bool
  one_more b (Ok t) = cond (of_link i j t) t.up b
  one_more b (Err c) = b

  abbrev stands : Bool → List (Entry Turn) → Bool
  stands b [] = b
  stands b (e ∷ es) = stands (one_more b e.says) es

  -- an entry that is no turn of the link leaves it as it is
  passed : (b : Bool) (s : Result Turn script.Cause) → ((t : Turn) → s ≡ Ok t → of_link i j t ≡ false) → one_more b s ≡ b
  passed b (Ok t) h = cond-false (of_link i j t) _ _ (h t refl)
  passed b (Err c) h = refl

  stays : (b : Bool) (es : List (Entry Turn)) → AllByRecursion (Elsewhere i j) es → stands b es ≡ b
  stays b [] h = refl
  stays b (e ∷ es) h = ap (λ c. stands c es) (passed b e.says h.0) ∙ stays b es h.1

  -- the last turn of a link says up, or it was up and there is none
  abbrev Up : Bool → List (Entry Turn) → Type 0
  Up b es = LastIsUp i j es ⊎ ((b ≡ true) × AllByRecursion (Elsewhere i j) es)

  later : (e : Entry Turn) (es : List (Entry Turn)) → LastIsUp i j es → LastIsUp i j (e ∷ es)
  later e es h = record { before = e ∷ h.before; line = h.line; turn = h.turn; after = h.after; split = ap (λ l. e ∷ l) h.split; of = h.of; up = h.up; last = h.last }

  turn_here : (u : Bool) (e : Entry Turn) (t : Turn) (b : Bool) (es : List (Entry Turn)) → of_link i j t ≡ u → e.says ≡ Ok t → one_more b (Ok t) ≡ true → AllByRecursion (Elsewhere i j) es → Up b (e ∷ es)
  turn_here true e t b es of says up none =
      inl (record { before = []; line = e.line; turn = t; after = es; split = (λ k. record { line = e.line; says = says k } ∷ es); of = of; up = sym (cond-true (of_link i j t) t.up b of) ∙ up; last = none })
  turn_here false e t b es of says up none =
      inr (sym (cond-false (of_link i j t) t.up b of) ∙ up, ((λ v q. let same : t ≡ v = cc in ap (of_link i j) (sym same) ∙ of), none))

  here : (e : Entry Turn) (s : Result Turn script.Cause) (b : Bool) (es : List (Entry Turn)) → e.says ≡ s → one_more b s ≡ true → AllByRecursion (Elsewhere i j) es → Up b (e ∷ es)
  here e (Ok t) b es says up none = turn_here (of_link i j t) e t b es refl says up none
  here e (Err c) b es says up none = inr (up, ((λ t q. let z : ◌≡◌ {A = ℕ} 0 1 = cc in absurd (omega arith)), none))

  or_here : (e : Entry Turn) (b : Bool) (es : List (Entry Turn)) → Up (one_more b e.says) es → Up b (e ∷ es)
  or_here e b es (inl h) = inl (later e es h)
  or_here e b es (inr h) = here e e.says b es refl h.0 h.1

  found : (b : Bool) (es : List (Entry Turn)) → stands b es ≡ true → Up b es
  found b [] h = inr (h, tt)
  found b (e ∷ es) h = or_here e b es (found (one_more b e.says) es h)

  kept_up : (b : Bool) (before after : List (Entry Turn)) (k : ℕ) (t : Turn) → of_link i j t ≡ true → t.up ≡ true → AllByRecursion (Elsewhere i j) after → stands b (before ++ (record { line = k; says = Ok t } ∷ after)) ≡ true
  kept_up b [] after k t of up none = stays (one_more b (Ok t)) after none ∙ cond-true (of_link i j t) t.up b of ∙ up
  kept_up b (e ∷ es) after k t of up none = kept_up (one_more b e.says) es after k t of up none

  last_up : (b : Bool) (es : List (Entry Turn)) → LastIsUp i j es → stands b es ≡ true
  last_up b es h = ap (stands b) h.split ∙ kept_up b h.before h.after h.line h.turn h.of h.up h.last

  no_up : (es : List (Entry Turn)) → Up false es → LastIsUp i j es
  no_up es (inl h) = h
  no_up es (inr h) = absurd (both_ways false refl h.0)

  decided : (b : Bool) (es : List (Entry Turn)) → stands false es ≡ b → MatchBool b (LastIsUp i j es) (LastIsUp i j es → ⊥)
  decided true es h = no_up es (found false es h)
  decided false es h = λ up. both_ways (stands false es) h (last_up false es up)

module _ (r : Relations) where
  -- a turn of two related networks, after which the list goes on
  abbrev Went : Result Turn script.Cause → Links → (Links → Outcome) → Outcome → Type 0
  Went s links on out = (t : Turn) × (s ≡ Ok t) × (related (relation r t.first t.second) ≡ true) × (on (with_link links t.first t.second t.up) ≡ out)

  went_ok : (b : Bool) (t : Turn) (links : Links) (k : ℕ) (on : Links → Outcome) (last : Links) → related (relation r t.first t.second) ≡ b → turned r links k (Ok t) on ≡ Ok last → Went (Ok t) links on (Ok last)
  went_ok true t links k on last e h = (t, refl, e, sym (cond-true (related (relation r t.first t.second)) _ _ e) ∙ h)
  went_ok false t links k on last e h =
      let none = sym (cond-false (related (relation r t.first t.second)) (on (with_link links t.first t.second t.up)) (Err (k, NoLink)) e) ∙ h in
      let z : ◌≡◌ {A = ℕ} 0 1 = cc in absurd (omega arith)

  step_ok : (s : Result Turn script.Cause) (links : Links) (k : ℕ) (on : Links → Outcome) (last : Links) → turned r links k s on ≡ Ok last → Went s links on (Ok last)
  step_ok (Ok t) links k on last h = went_ok (related (relation r t.first t.second)) t links k on last refl h
  step_ok (Err c) links k on last h = let z : ◌≡◌ {A = ℕ} 0 1 = cc in absurd (omega arith)

  links_stand : (es : List (Entry Turn)) (links last : Links) → links_after r links es ≡ Ok last → (i j : ℕ) → last i j ≡ stands i j (links i j) es
  unfolding links_after
  links_stand [] links last h i j = let e : links ≡ last = cc in ap (λ l. l i j) (sym e)
  links_stand (e ∷ es) links last h i j =
      let p = step_ok e.says links e.line (λ next. links_after r next es) last h in
      links_stand es (with_link links p.0.first p.0.second p.0.up) last p.3 i j ∙ ap (λ s. stands i j (one_more i j (links i j) s) es) (sym p.1)

  all_good : (es : List (Entry Turn)) (links last : Links) → links_after r links es ≡ Ok last → AllByRecursion (Good r) es
  unfolding links_after
  all_good [] links last h = tt
  all_good (e ∷ es) links last h =
      let p = step_ok e.says links e.line (λ next. links_after r next es) last h in
      ((p.0, p.1, p.2), all_good es (with_link links p.0.first p.0.second p.0.up) last p.3)

  -- a fault is here, or it comes later
  abbrev Fails : Result Turn script.Cause → Links → ℕ → (Links → Outcome) → ℕ → Cause → Type 0
  Fails s links k on line c = ((k ≡ line) × Wrong r s c) ⊎ Went s links on (Err (line, c))

  same_fault : (k line : ℕ) (d c : Cause) → ◌≡◌ {A = Outcome} (Err (k, d)) (Err (line, c)) → (k ≡ line) × (c ≡ d)
  same_fault k line d c h = let e : ◌≡◌ {A = ℕ × Cause} (k, d) (line, c) = cc in (ap (λ x. x.0) e, sym (ap (λ x. x.1) e))

  went_err : (b : Bool) (t : Turn) (links : Links) (k : ℕ) (on : Links → Outcome) (line : ℕ) (c : Cause) → related (relation r t.first t.second) ≡ b → turned r links k (Ok t) on ≡ Err (line, c) → Fails (Ok t) links k on line c
  went_err true t links k on line c e h = inr (t, refl, e, sym (cond-true (related (relation r t.first t.second)) _ _ e) ∙ h)
  went_err false t links k on line c e h =
      let p = same_fault k line NoLink c (sym (cond-false (related (relation r t.first t.second)) (on (with_link links t.first t.second t.up)) (Err (k, NoLink)) e) ∙ h) in
      inl (p.0, (e, p.1))

  step_err : (s : Result Turn script.Cause) (links : Links) (k : ℕ) (on : Links → Outcome) (line : ℕ) (c : Cause) → turned r links k s on ≡ Err (line, c) → Fails s links k on line c
  step_err (Ok t) links k on line c h = went_err (related (relation r t.first t.second)) t links k on line c refl h
  step_err (Err d) links k on line c h = inl (same_fault k line (Line d) c h)

  first_on : (e : Entry Turn) (es : List (Entry Turn)) (links : Links) (on : Links → Outcome) (line : ℕ) (c : Cause) → Fails e.says links e.line on line c → ((next : Links) → on next ≡ Err (line, c) → FirstFault r line c es) → FirstFault r line c (e ∷ es)
  first_on e es links on line c (inl h) more = record {
    before = [];
    says = e.says;
    after = es;
    split = λ i. record { line = h.0 i; says = e.says } ∷ es;
    good = tt;
    wrong = h.1;
  }
  first_on e es links on line c (inr p) more =
      let h = more (with_link links p.0.first p.0.second p.0.up) p.3 in
      record {
        before = e ∷ h.before;
        says = h.says;
        after = h.after;
        split = ap (λ l. e ∷ l) h.split;
        good = ((p.0, p.1, p.2), h.good);
        wrong = h.wrong;
      }

  first_fault : (es : List (Entry Turn)) (links : Links) (line : ℕ) (c : Cause) → links_after r links es ≡ Err (line, c) → FirstFault r line c es
  unfolding links_after
  first_fault [] links line c h = let z : ◌≡◌ {A = ℕ} 0 1 = cc in absurd (omega arith)
  first_fault (e ∷ es) links line c h =
      first_on e es links (λ next. links_after r next es) line c (step_err e.says links e.line _ line c h) (λ next. first_fault es next line c)

pub last_turned : LastTurned
last_turned r text links h i j = decided i j (links i j) (turn_entries (networks r) 0 text) (sym (links_stand r (turn_entries (networks r) 0 text) all_down links h i j))

pub none_is_passed_over : NoneIsPassedOver
none_is_passed_over r text links h = all_good r (turn_entries (networks r) 0 text) all_down links h

pub faults_are_the_first_lem : FaultsAreTheFirst
faults_are_the_first_lem r text line c h = first_fault r (turn_entries (networks r) 0 text) all_down line c h
