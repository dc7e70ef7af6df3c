-- What is in flight between two networks after a step: as the model says. Assumes nothing.
use Rattle.std.proofs.Common.{◌≡◌, ℕ, zero, suc, ◌+◌, ◌≤◌, Bool, true, false, cond, not, ◌&&◌, ◌||◌, eqb, ltb, List, [], ◌∷◌, ◌++◌, take, drop, Some, None, Option, sym, refl, ap, ◌∙◌, ⊎_elim, true≢false, append-nil, arith}
use lib.Seq.{split_at}
use Rattle.std.proofs.lemmas.Bool.{and_parts, cases_Bool, cases_eq, cases_lt, cond-false, cond-true, eq-eqb, eqb-true, le-ltb, ne_eqb}
use Rattle.std.proofs.lemmas.Bool.Decides.{nat_tests}
use Rattle.model.specs.Export.{same_saying}
use Rattle.model.specs.Hearing.{unless}
use Rattle.model.specs.Local.{Local, outbox, sends, sent, tells_now}
use Rattle.model.specs.Lists.{gather}
use Rattle.model.specs.Packets.{Forwarded, arrived, dropped, handed}
use Rattle.model.specs.Run.{Item, update, packet, onward, updates}
use Rattle.model.specs.Steps.{appended, queued}
use Rattle.model.specs.World.{World}
use Rattle.model.specs.declared.fault.Fault.{Fault}
use Rattle.convergence.proofs.Places.{crosses, emptied, queued_is}
use Rattle.simulation.specs.Posts.{Post, between, cut, flying, goes, mail, passed_on}
use Rattle.model.proofs.Gathered.{gather_none, gather_one, gather_same}
use Rattle.simulation.proofs.Mailed.{mail_outbox, map_cond, map_gather, one}
use Rattle.simulation.proofs.Posted.{Front, between_append}

pub between_gather : (a c : ℕ) (g : ℕ → List Post) (m : ℕ) → between a c (gather g m) ≡ gather (λ k. between a c (g k)) m
between_gather a c g zero = refl
between_gather a c g (suc m) = between_append a c (gather g m) (g m) ∙ ap (λ l. l ++ between a c (g m)) (between_gather a c g m)

picked : (a c : ℕ) (s : Bool) (p : Post) → between a c (cond s (p ∷ []) []) ≡ cond s (cond (goes a c p) (p.what ∷ []) []) []
picked a c true p = refl
picked a c false p = refl

blank : {X : Type 0} (s : Bool) → cond {A = List X} s [] [] ≡ []
blank true = refl
blank false = refl

module _ (w : World) (i : ℕ) (these : ℕ → Bool) (s : Local) where
  abbrev said : ℕ → ℕ → Item
  said b k = update (record { block = b; says = tells_now w i s b k })

  -- what it sends of block b arrives with c alone
  one_hearer : (b c : ℕ) → gather (λ k. between i c (one w i these s b k)) w.n ≡ cond (sends w i these s b c) (said b c ∷ []) []
  one_hearer b c =
      ⊎_elim
      (λ l. gather_one _ c w.n l (λ k ne. others k ne) ∙ picked i c (sends w i these s b c) (record { from = i; to = c; what = said b c }) ∙ (λ x. cond (sends w i these s b c) (cond (eq-eqb i i refl x && eq-eqb c c refl x) (said b c ∷ []) []) []))
      (λ l. gather_none _ w.n (λ k h. others k (λ e. omega arith)) ∙ sym (past l))
      (cases_lt c w.n)
    where
      others : (k : ℕ) → (k ≡ c → ⊥) → between i c (one w i these s b k) ≡ []
      others k ne = picked i c (sends w i these s b k) (record { from = i; to = k; what = said b k }) ∙ (λ x. cond (sends w i these s b k) (cond (eq-eqb i i refl x && ne_eqb k c ne x) (said b k ∷ []) []) []) ∙ blank (sends w i these s b k)

      past : w.n ≤ c → cond (sends w i these s b c) (said b c ∷ []) [] ≡ []
      past l = let e = le-ltb c w.n l in ap (λ t. cond ((these b && ltb b w.blocks && t && s.up c) && not (same_saying (tells_now w i s b c) (s.advertised b c))) (said b c ∷ []) []) e ∙ shut (these b) (ltb b w.blocks)
        where
          shut : (p q : Bool) → cond ((p && q && false && s.up c) && not (same_saying (tells_now w i s b c) (s.advertised b c))) (said b c ∷ []) [] ≡ []
          shut true true = refl
          shut true false = refl
          shut false q = refl

  from_others : (a c b k : ℕ) → (i ≡ a → ⊥) → between a c (one w i these s b k) ≡ []
  from_others a c b k ne = picked a c (sends w i these s b k) (record { from = i; to = k; what = said b k }) ∙ (λ x. cond (sends w i these s b k) (cond (ne_eqb i a ne x && eqb k c) (said b k ∷ []) []) []) ∙ blank (sends w i these s b k)

  -- what it sends to one neighbour, block by block
  all_sent : (c : ℕ) → gather (λ b. cond (sends w i these s b c) (said b c ∷ []) []) w.blocks ≡ updates (sent w i these s c)
  all_sent c = gather_same _ _ w.blocks (λ b l. sym (map_cond update (sends w i these s b c) (record { block = b; says = tells_now w i s b c }))) ∙ sym (map_gather update _ w.blocks)

  -- what it sends is from it alone, and to each neighbour what the model says
  pub between_outbox : (a c : ℕ) → between a c (mail i (outbox w i these s)) ≡ cond (eqb a i) (updates (sent w i these s c)) []
  between_outbox a c =
      ap (between a c) (mail_outbox w i these s) ∙ between_gather a c _ w.blocks ∙
      ⊎_elim
      (λ e. gather_same _ _ w.blocks (λ b l. between_gather a c _ w.n ∙ ap (λ z. gather (λ k. between z c (one w i these s b k)) w.n) e ∙ one_hearer b c) ∙ all_sent c ∙ sym (ap (λ t. cond t (updates (sent w i these s c)) []) (eq-eqb a i e)))
      (λ ne. gather_none _ w.blocks (λ b l. between_gather a c _ w.n ∙ gather_none _ w.n (λ k h. from_others a c b k (λ e. ne (sym e)))) ∙ sym (ap (λ t. cond t (updates (sent w i these s c)) []) (ne_eqb a i ne)))
      (cases_eq a i)

  pub between_unless : (f : Option Fault) (a c : ℕ) → between a c (mail i (unless f [] (outbox w i these s))) ≡ cond (eqb a i) (updates (unless f [] (sent w i these s c))) []
  between_unless (Some fault) a c = sym (blank (eqb a i))
  between_unless None a c = between_outbox a c

-- what is sent is appended
after : {X : Type 0} (b : Bool) (xs ys : List X) → xs ++ cond b ys [] ≡ cond b (xs ++ ys) xs
after true xs ys = refl
after false xs ys = append-nil xs

pub flying_appended : (ps qs : List Post) (j : ℕ) (more : ℕ → List Item) → ((a c : ℕ) → between a c qs ≡ cond (eqb a j) (more c) []) → (a c : ℕ) → flying (ps ++ qs) a c ≡ appended j more (flying ps) a c
flying_appended ps qs j more h a c = between_append a c ps qs ∙ ap (λ l. between a c ps ++ l) (h a c) ∙ after (eqb a j) (between a c ps) (more c)

-- a packet that is handed on goes to one neighbour
pub between_passed : (i : ℕ) (became : Forwarded) (a c : ℕ) → between a c (passed_on i became) ≡ cond (eqb a i) (onward became c) []
between_passed i arrived a c = sym (blank (eqb a i))
between_passed i (dropped why) a c = sym (blank (eqb a i))
between_passed i (handed j p) a c = (λ x. cond (turned_ends i a j c x) (packet p ∷ []) []) ∙ both_ends (eqb a i) (eqb c j) (packet p)
  where
    turned_ends : (i a j c : ℕ) → (eqb i a && eqb j c) ≡ (eqb a i && eqb c j)
    turned_ends i a j c = grind (arith, nat_tests)

    both_ends : {X : Type 0} (x y : Bool) (u : X) → cond (x && y) (u ∷ []) [] ≡ cond x (cond y (u ∷ []) []) []
    both_ends true y u = refl
    both_ends false y u = refl

-- without the oldest
module _ (i j k : ℕ) (u : Item) (ps : List Post) (old : Front i j k u ps) where
  abbrev here : Post
  here = record { from = i; to = j; what = u }

  split : ps ≡ take k ps ++ here ∷ drop (k + 1) ps
  split = let e : suc k ≡ k + 1 = omega arith in split_at ps k here old.there ∙ (λ x. take k ps ++ old.here here x ∷ drop (e x) ps)

  pub lost_one : between i j ps ≡ u ∷ between i j (take k ps ++ drop (k + 1) ps)
  lost_one =
      ap (between i j) split ∙ between_append i j (take k ps) (here ∷ drop (k + 1) ps) ∙
      (λ x. old.first x ++ cond (eq-eqb i i refl x && eq-eqb j j refl x) (u ∷ between i j (drop (k + 1) ps)) (between i j (drop (k + 1) ps))) ∙
      sym (ap (λ l. u ∷ l) (between_append i j (take k ps) (drop (k + 1) ps) ∙ ap (λ l. l ++ between i j (drop (k + 1) ps)) old.first))

  others_stay : (a c : ℕ) → (eqb i a && eqb j c) ≡ false → between a c (take k ps ++ drop (k + 1) ps) ≡ between a c ps
  others_stay a c off =
      between_append a c (take k ps) (drop (k + 1) ps) ∙
      sym (ap (between a c) split ∙ between_append a c (take k ps) (here ∷ drop (k + 1) ps) ∙ ap (λ t. between a c (take k ps) ++ cond t (u ∷ between a c (drop (k + 1) ps)) (between a c (drop (k + 1) ps))) off)

  pub flying_without : (a c : ℕ) → flying (take k ps ++ drop (k + 1) ps) a c ≡ queued i j (flying (take k ps ++ drop (k + 1) ps) i j) (flying ps) a c
  flying_without a c =
      ⊎_elim
      (λ e. let p = and_parts (eqb a i) (eqb c j) e in (λ x. flying (take k ps ++ drop (k + 1) ps) (eqb-true a i p.0 x) (eqb-true c j p.1 x)) ∙ sym (queued_is i j _ (flying ps) a c ∙ cond-true _ _ _ e))
      (λ e. let off : (eqb i a && eqb j c) ≡ false = grind (arith, nat_tests) in others_stay a c off ∙ sym (queued_is i j _ (flying ps) a c ∙ cond-false _ _ _ e))
      (cases_Bool (eqb a i && eqb c j))

-- a letter over the link is lost, and only such
mixed : {X : Type 0} (x y g : Bool) (u : X) (bs cs : List X) → cs ≡ cond y [] bs → (x ≡ true → g ≡ true → y ≡ true) → (y ≡ true → g ≡ true → x ≡ true) → cond x cs (cond g (u ∷ cs) cs) ≡ cond y [] (cond g (u ∷ bs) bs)
mixed true true g u bs cs e h k = e
mixed true false true u bs cs e h k = absurd (true≢false (sym (h refl refl)))
mixed true false false u bs cs e h k = e
mixed false true true u bs cs e h k = absurd (true≢false (sym (k refl refl)))
mixed false true false u bs cs e h k = e
mixed false false g u bs cs e h k = ap (λ l. cond g (u ∷ l) l) e

-- a link that was cut
pub flying_cut : (i j : ℕ) (ps : List Post) (a c : ℕ) → flying (cut i j ps) a c ≡ queued i j [] (queued j i [] (flying ps)) a c
flying_cut i j ps a c = cut_between ps ∙ sym (emptied i j (flying ps) a c)
  where
    cut_between : (ps : List Post) → between a c (cut i j ps) ≡ cond (crosses i j a c) [] (between a c ps)
    cut_between [] = sym (blank (crosses i j a c))
    cut_between (p ∷ ps) = opened (goes i j p || goes j i p) ∙ mixed (goes i j p || goes j i p) (crosses i j a c) (goes a c p) p.what (between a c ps) (between a c (cut i j ps)) (cut_between ps) (λ x g. grind (arith, nat_tests)) (λ y g. grind (arith, nat_tests))
      where
        opened : (x : Bool) → between a c (cond x (cut i j ps) (p ∷ cut i j ps)) ≡ cond x (between a c (cut i j ps)) (cond (goes a c p) (p.what ∷ between a c (cut i j ps)) (between a c (cut i j ps)))
        opened true = refl
        opened false = refl
