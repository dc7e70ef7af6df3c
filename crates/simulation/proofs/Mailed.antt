-- What a network sends is its outbox. Assumes nothing.
use Rattle.std.proofs.Common.{Result, Ok, Err, ◌≡◌, ℕ, zero, suc, ◌<◌, Bool, true, false, cond, not, ◌&&◌, ltb, List, [], ◌∷◌, ◌++◌, map, length, get_or, sym, refl, ap, ◌∙◌, arith}
use Rattle.std.proofs.lemmas.List.{map-append}
use Rattle.std.proofs.lemmas.Bool.{ne_eqb}
use Rattle.selection.specs.Sets.{member}
use Rattle.selection.specs.declared.set.NetworkSet.{NetworkSet}
use Rattle.model.specs.Export.{same_saying}
use Rattle.links.specs.Answers.{Answered, TurnAnswered}
use Rattle.model.specs.Hearing.{after_hearing, after_turning, every, forgotten, only, outbox_on_hearing, outbox_on_turning, replaced, unless}
use Rattle.model.specs.Local.{Local, Update, due, outbox, retold, sends, tells_now}
use Rattle.model.specs.Selection.{Said}
use Rattle.model.specs.Lists.{gather}
use Rattle.model.specs.Run.{update}
use Rattle.model.specs.World.{World}
use Rattle.model.specs.declared.fault.Fault.{Fault}
use Rattle.links.proofs.Receiving.{there}
use Rattle.simulation.specs.Posting.{told_by}
use Rattle.advertisement.specs.Telling.{in_audience}
use Rattle.simulation.specs.Posts.{Post, mail, mailing}
use Rattle.simulation.proofs.Posted.{told_all}
use Rattle.model.proofs.Gathered.{gather_none, gather_one, gather_same}

pub map_gather : {X Y : Type 0} (f : X → Y) (g : ℕ → List X) (m : ℕ) → map f (gather g m) ≡ gather (λ k. map f (g k)) m
map_gather f g zero = refl
map_gather f g (suc m) = map-append f (gather g m) (g m) ∙ ap (λ l. l ++ map f (g m)) (map_gather f g m)

pub map_cond : {X Y : Type 0} (f : X → Y) (b : Bool) (x : X) → map f (cond b (x ∷ []) []) ≡ cond b (f x ∷ []) []
map_cond f true x = refl
map_cond f false x = refl

-- where something is sent, it is due, and what was then advertised is what is told
sent_due : {X : Type 0} (d same : Bool) (f : Said → X) (t a : Said) → cond (d && not same) (f (cond d t a) ∷ []) [] ≡ cond (d && not same) (f t ∷ []) []
sent_due true same f t a = refl
sent_due false same f t a = refl

module _ (w : World) (i : ℕ) (these : ℕ → Bool) (s : Local) where
  -- what it sends of block b to k
  abbrev pub one : ℕ → ℕ → List Post
  one b k = cond (sends w i these s b k) (record { from = i; to = k; what = update (record { block = b; says = tells_now w i s b k }) } ∷ []) []

  pub mail_outbox : mail i (outbox w i these s) ≡ gather (λ b. gather (one b) w.n) w.blocks
  mail_outbox =
      map_gather _ _ w.blocks ∙
      gather_same _ _ w.blocks (λ b l. map_gather _ _ w.n ∙ gather_same _ _ w.n (λ k h. map_cond _ (sends w i these s b k) (k, record { block = b; says = tells_now w i s b k })))

  pub mailed_block : (b : ℕ) (whom : ℕ → Bool) (says : ℕ → Said) → ((k : ℕ) → whom k ≡ sends w i these s b k) → ((k : ℕ) → says k ≡ (retold w i these s).advertised b k) → mailing i b whom says w.n ≡ gather (one b) w.n
  mailed_block b whom says who what =
      gather_same _ _ w.n (λ k h. (λ x. cond (who k x) (record { from = i; to = k; what = update (record { block = b; says = what k x }) } ∷ []) []) ∙ sent_due (due w these s b k) (same_saying (tells_now w i s b k) (s.advertised b k)) (λ t. record { from = i; to = k; what = update (record { block = b; says = t }) }) (tells_now w i s b k) (s.advertised b k))

module _ (w : World) (i block : ℕ) (s : Local) where
  -- of one block alone
  pub mailed_only : (whom : ℕ → Bool) (says : ℕ → Said) → block < w.blocks → ((k : ℕ) → whom k ≡ sends w i (only block) s block k) → ((k : ℕ) → says k ≡ (retold w i (only block) s).advertised block k) → mailing i block whom says w.n ≡ mail i (outbox w i (only block) s)
  mailed_only whom says l who what = mailed_block w i (only block) s block whom says who what ∙ sym (gather_one _ block w.blocks l others) ∙ sym (mail_outbox w i (only block) s)
    where
      others : (b : ℕ) → (b ≡ block → ⊥) → gather (one w i (only block) s b) w.n ≡ []
      others b ne = gather_none _ w.n (λ k h. ap (λ t. cond ((t && ltb b w.blocks && ltb k w.n && s.up k) && not (same_saying (tells_now w i s b k) (s.advertised b k))) (record { from = i; to = k; what = update (record { block = b; says = tells_now w i s b k }) } ∷ []) []) (ne_eqb b block ne))

-- after an update was heard
pub heard_mail : (w : World) (i j : ℕ) (u : Update) (s : Local) (heard : Result NetworkSet Fault) (says : ℕ → Said) → Answered w i s j u heard → ((k : ℕ) → says k ≡ (after_hearing w i j u s).advertised u.block k) → mailing i u.block (told_by heard) says w.n ≡ mail i (outbox_on_hearing w i j u s)
heard_mail w i j u s (Ok audience) says (none, who) what =
    mailed_only w i u.block (replaced j u s) (member audience) says (there w i s j u none).0 who (λ k. what k ∙ ap (λ f. (unless f s (retold w i (only u.block) (replaced j u s))).advertised u.block k) none) ∙
    ap (λ f. mail i (unless f [] (outbox w i (only u.block) (replaced j u s)))) (sym none)
heard_mail w i j u s (Err fault) says some what = gather_none _ w.n (λ k h. refl) ∙ ap (λ f. mail i (unless f [] (outbox w i (only u.block) (replaced j u s)))) (sym some)

whom_is : (audiences : List NetworkSet) (b k : ℕ) (r : Bool) → b < length audiences → ((d : NetworkSet) → member (get_or audiences b d) k ≡ r) → in_audience audiences b k ≡ r
whom_is [] b k r l h = absurd (omega arith)
whom_is (a ∷ others) zero k r l h = h a
whom_is (a ∷ others) (suc b) k r l h = whom_is others b k r (omega arith) h

-- after a link turned
pub turned_mail : (w : World) (i j : ℕ) (up : Bool) (s : Local) (audiences : List NetworkSet) (turned : Result (Unit {0}) Fault) (says : ℕ → ℕ → Said) → length audiences ≡ w.blocks → TurnAnswered w i s j up audiences turned → ((b k : ℕ) → says b k ≡ (after_turning w i j up s).advertised b k) → told_all turned (gather (λ b. mailing i b (in_audience audiences b) (says b) w.n) w.blocks) ≡ mail i (outbox_on_turning w i j up s)
turned_mail w i j up s audiences (Ok _) says long (none, who) what =
    gather_same _ _ w.blocks (λ b l. mailed_block w i every (forgotten j up s) b (in_audience audiences b) (says b) (λ k. whom_is audiences b k _ (omega arith) (λ d. who b k d l)) (λ k. what b k ∙ ap (λ f. (unless f s (retold w i every (forgotten j up s))).advertised b k) none)) ∙
    sym (mail_outbox w i every (forgotten j up s)) ∙
    ap (λ f. mail i (unless f [] (outbox w i every (forgotten j up s)))) (sym none)
turned_mail w i j up s audiences (Err fault) says long some what = ap (λ f. mail i (unless f [] (outbox w i every (forgotten j up s)))) (sym some)
