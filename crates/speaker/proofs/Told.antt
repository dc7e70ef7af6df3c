-- What a network writes of blocks is its outbox. Assumes nothing.
use Rattle.std.proofs.Common.{Result, Ok, Err, Some, None, Option, subst, ◌≡◌, ℕ, zero, suc, ◌+◌, ◌<◌, Bool, true, false, cond, not, ◌&&◌, ltb, List, [], ◌∷◌, ◌++◌, length, get_or, sym, refl, ap, ◌∙◌, append_assoc, append-nil, arith}
use Rattle.std.specs.List.{flat_map}
use Rattle.std.proofs.lemmas.List.{get_or-map}
use Rattle.std.proofs.lemmas.Grind.{flat_map-append}
use Rattle.std.proofs.lemmas.Bool.{ne_eqb}
use Rattle.selection.specs.Sets.{member}
use Rattle.selection.specs.declared.set.NetworkSet.{NetworkSet}
use Rattle.model.specs.Export.{same_saying}
use Rattle.links.specs.Answers.{Answered, TurnAnswered}
use Rattle.model.specs.Hearing.{after_hearing, after_turning, every, forgotten, hearing_fault, only, outbox_on_hearing, outbox_on_turning, replaced, turning_fault, unless}
use Rattle.model.specs.declared.fault.Fault.{Fault}
use Rattle.links.proofs.Receiving.{there}
use Rattle.std.specs.Option.{option_map}
use Rattle.std.proofs.lemmas.List.Folds.{flat_map-map}
use Rattle.speaker.specs.Answers.{Obeys, RefusesTurn}
use Rattle.speaker.proofs.Lines.{own_line}
use Rattle.speaker.specs.declared.fault.Fault.{Fault as Told}
use Rattle.speaker.specs.declared.fault.Fault.TheVariants.{Router}
use Rattle.model.specs.Local.{Local, Update, due, outbox, retold, sends, tells_now}
use Rattle.model.specs.Selection.{Said}
use Rattle.model.specs.Lists.{gather}
use Rattle.model.specs.World.{World}
use Rattle.messages.specs.Encoding.{bytes_of, stream_of}
use Rattle.messages.specs.Meaning.{update}
use Rattle.speaker.specs.Rule.{Taken, on_turn, on_update, taken_unless, update_messages}
use Rattle.speaker.specs.Telling.{telling, tellings_of, whom}
use Rattle.messages.specs.Writing.{update_written}
use Rattle.model.proofs.Gathered.{gather_more, gather_none, gather_one, gather_same}

-- one more list is appended
pub one_more : (f : ℕ → List ℕ) (entry : List ℕ) (k : ℕ) (now next : List ℕ) → now ≡ entry ++ gather f k → next ≡ now ++ f k → next ≡ entry ++ gather f (k + 1)
one_more f entry k now next inv step = step ∙ ap (λ l. l ++ f k) inv ∙ append_assoc entry (gather f k) (f k) ∙ ap (λ l. entry ++ l) (sym (gather_more f k))

-- who is to be told, as the audience of a block says
pub by_audience : (audiences : List NetworkSet) (b : ℕ) (a : NetworkSet) → b < length audiences → a ≡ get_or audiences b a → whom audiences b ≡ member a
by_audience audiences b a l e = get_or-map member audiences b a (λ k. false) l ∙ ap member (sym e)

pub flat_gather : {X A : Type 0} (f : X → List A) (g : ℕ → List X) (m : ℕ) → flat_map f (gather g m) ≡ gather (λ k. flat_map f (g k)) m
flat_gather f g zero = refl
flat_gather f g (suc m) = flat_map-append f (gather g m) (g m) ∙ ap (λ l. l ++ flat_map f (g m)) (flat_gather f g m)

pub flat_cond : {X A : Type 0} (f : X → List A) (b : Bool) (x : X) → flat_map f (cond b (x ∷ []) []) ≡ cond b (f x) []
flat_cond f true x = append-nil (f x)
flat_cond f false x = refl

-- where something is sent, it is due, and what was then advertised is what is told
sent_due : {X : Type 0} (d same : Bool) (f : Said → List X) (t a : Said) → cond (d && not same) (f (cond d t a)) [] ≡ cond (d && not same) (f t) []
sent_due true same f t a = refl
sent_due false same f t a = refl

-- the bytes of an update to a neighbour
abbrev told_to : ℕ × Update → List ℕ
told_to x = bytes_of (record { network = x.0; thing = update x.1 })

module _ (w : World) (i : ℕ) (these : ℕ → Bool) (s : Local) where
  -- what it writes of block b to k
  abbrev pub one : ℕ → ℕ → List ℕ
  one b k = cond (sends w i these s b k) (update_written k b (tells_now w i s b k)) []

  pub outbox_bytes : stream_of (update_messages (outbox w i these s)) ≡ gather (λ b. gather (one b) w.n) w.blocks
  outbox_bytes =
      flat_map-map bytes_of (λ x. record { network = x.0; thing = update x.1 }) (outbox w i these s) ∙
      flat_gather told_to _ w.blocks ∙
      gather_same _ _ w.blocks (λ b l. flat_gather told_to _ w.n ∙ gather_same _ _ w.n (λ k h. flat_cond told_to (sends w i these s b k) (k, record { block = b; says = tells_now w i s b k })))

  pub told_block : (b : ℕ) (whom : ℕ → Bool) (says : ℕ → Said) → ((k : ℕ) → whom k ≡ sends w i these s b k) → ((k : ℕ) → says k ≡ (retold w i these s).advertised b k) → telling b whom says w.n ≡ gather (one b) w.n
  told_block b whom says who what =
      gather_same _ _ w.n (λ k h. (λ x. cond (who k x) (bytes_of (record { network = k; thing = update (record { block = b; says = what k x }) })) []) ∙ sent_due (due w these s b k) (same_saying (tells_now w i s b k) (s.advertised b k)) (λ t. bytes_of (record { network = k; thing = update (record { block = b; says = t }) })) (tells_now w i s b k) (s.advertised b k))

module _ (w : World) (i block : ℕ) (s : Local) where
  -- of one block alone
  pub told_only : (whom : ℕ → Bool) (says : ℕ → Said) → block < w.blocks → ((k : ℕ) → whom k ≡ sends w i (only block) s block k) → ((k : ℕ) → says k ≡ (retold w i (only block) s).advertised block k) → telling block whom says w.n ≡ stream_of (update_messages (outbox w i (only block) s))
  told_only whom says l who what = told_block w i (only block) s block whom says who what ∙ sym (gather_one _ block w.blocks l others) ∙ sym (outbox_bytes w i (only block) s)
    where
      others : (b : ℕ) → (b ≡ block → ⊥) → gather (one w i (only block) s b) w.n ≡ []
      others b ne = gather_none _ w.n (λ k h. ap (λ t. cond ((t && ltb b w.blocks && ltb k w.n && s.up k) && not (same_saying (tells_now w i s b k) (s.advertised b k))) (update_written k b (tells_now w i s b k)) []) (ne_eqb b block ne))

-- an update that was heard
module _ (w : World) (i j : ℕ) (u : Update) (s : Local) (now : Local) (before after : List ℕ) where
  pub heard_obeys : (audience : NetworkSet) (says : ℕ → Said) → Answered w i s j u (Ok audience) → now ≡ after_hearing w i j u s → ((k : ℕ) → says k ≡ now.advertised u.block k) → after ≡ before ++ telling u.block (member audience) says w.n → Obeys (on_update w i s j u) now before after (Ok tt)
  heard_obeys audience says (none, who) holds what writes =
      subst
      (λ f. Obeys (taken_unless (option_map Router f) (record { holds = after_hearing w i j u s; writes = update_messages (outbox_on_hearing w i j u s) })) now before after (Ok tt))
      (sym none) (
        holds,
        writes ∙
            ap (λ l. before ++ l) (
            told_only w i u.block (replaced j u s) (member audience) says (there w i s j u none).0 who (λ k. what k ∙ ap (λ z. z.advertised u.block k) (holds ∙ ap (λ f. unless f s (retold w i (only u.block) (replaced j u s))) none)) ∙
            ap (λ f. stream_of (update_messages (unless f [] (outbox w i (only u.block) (replaced j u s))))) (sym none)
            ),
      )

  pub unheard_obeys : (fault : Fault) → hearing_fault w i s j u ≡ Some fault → Obeys (on_update w i s j u) now before after (Err (Router fault))
  unheard_obeys fault some = subst (λ f. Obeys (taken_unless (option_map Router f) (record { holds = after_hearing w i j u s; writes = update_messages (outbox_on_hearing w i j u s) })) now before after (Err (Router fault))) (sym some) refl

-- one more block is told, to its audience
pub block_more : (audiences : List NetworkSet) (says : ℕ → ℕ → Said) (n b : ℕ) (a : NetworkSet) (entry now next : List ℕ) → b < length audiences → a ≡ get_or audiences b a → now ≡ entry ++ tellings_of audiences says n b → next ≡ now ++ telling b (member a) (says b) n → next ≡ entry ++ tellings_of audiences says n (b + 1)
block_more audiences says n b a entry now next l e inv step =
    one_more (λ b. telling b (whom audiences b) (says b) n) entry b now next inv (step ∙ ap (λ who. now ++ telling b who (says b) n) (sym (by_audience audiences b a l e)))

whom_is : (audiences : List NetworkSet) (b k : ℕ) (r : Bool) → b < length audiences → ((d : NetworkSet) → member (get_or audiences b d) k ≡ r) → whom audiences b k ≡ r
whom_is [] b k r l h = absurd (omega arith)
whom_is (a ∷ others) zero k r l h = h a
whom_is (a ∷ others) (suc b) k r l h = whom_is others b k r (omega arith) h

-- a line of its own that turned
module _ (w : World) (i j : ℕ) (up : Bool) (s : Local) (now : Local) (before after : List ℕ) where
  turned_bytes : (audiences : List NetworkSet) (says : ℕ → ℕ → Said) → length audiences ≡ w.blocks → TurnAnswered w i s j up audiences (Ok tt) → ((b k : ℕ) → says b k ≡ (after_turning w i j up s).advertised b k) → tellings_of audiences says w.n w.blocks ≡ stream_of (update_messages (outbox_on_turning w i j up s))
  turned_bytes audiences says long (none, who) what =
      gather_same _ _ w.blocks (λ b l. told_block w i every (forgotten j up s) b (whom audiences b) (says b) (λ k. whom_is audiences b k _ (omega arith) (λ d. who b k d l)) (λ k. what b k ∙ ap (λ f. (unless f s (retold w i every (forgotten j up s))).advertised b k) none)) ∙
      sym (outbox_bytes w i every (forgotten j up s)) ∙
      ap (λ f. stream_of (update_messages (unless f [] (outbox w i every (forgotten j up s))))) (sym none)

  abbrev taken : Taken
  taken = record { holds = after_turning w i j up s; writes = update_messages (outbox_on_turning w i j up s) }

  -- where the fault of the turn is this
  taken_as : (f : Option Fault) (r : Result (Unit {0}) Told) → turning_fault w i j ≡ f → Obeys (taken_unless (option_map Router f) taken) now before after r → Obeys (on_turn w i s j j up) now before after r
  taken_as f r e = subst (λ g. Obeys (taken_unless g taken) now before after r) (sym (own_line w i j ∙ ap (option_map Router) e))

  pub turned_obeys : (audiences : List NetworkSet) (says : ℕ → ℕ → Said) → length audiences ≡ w.blocks → TurnAnswered w i s j up audiences (Ok tt) → now ≡ after_turning w i j up s → ((b k : ℕ) → says b k ≡ now.advertised b k) → after ≡ before ++ tellings_of audiences says w.n w.blocks → Obeys (on_turn w i s j j up) now before after (Ok tt)
  turned_obeys audiences says long turned holds what writes =
      taken_as None (Ok tt) turned.0 (holds, writes ∙ ap (λ l. before ++ l) (turned_bytes audiences says long turned (λ b k. what b k ∙ ap (λ z. z.advertised b k) holds)))

  pub unturned_obeys : (fault : Fault) → turning_fault w i j ≡ Some fault → Obeys (on_turn w i s j j up) now before after (Err (Router fault))
  unturned_obeys fault some = taken_as (Some fault) (Err (Router fault)) some refl

-- a turn that is refused whatever is tied
pub refused_turn_obeys : (w : World) (n i j other : ℕ) (up : Bool) (s : Local) (before : List ℕ) (fault : Told) → w.n ≡ n → RefusesTurn n j other fault → Obeys (on_turn w i s j other up) s before before (Err fault)
refused_turn_obeys w n i j other up s before fault e refuses = subst (λ f. Obeys (taken_unless f (record { holds = after_turning w i other up s; writes = update_messages (outbox_on_turning w i other up s) })) s before before (Err fault)) (sym (refuses w i e)) refl
