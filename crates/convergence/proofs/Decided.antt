-- What a network tells depends only on what came over channels of lower level, in any order within a rank. Assumes nothing.
use Rattle.std.proofs.Common.{◌≡◌, ℕ, zero, suc, ◌*◌, ◌<◌, ◌≤◌, Bool, false, cond, ◌&&◌, None, sym, refl, ap, ◌∙◌, ⊎_elim, arith}
use Rattle.std.proofs.lemmas.Bool.{both_ways, cases_Bool}
use Rattle.model.specs.Relations.{opposite, related}
use Rattle.model.specs.declared.relation.Relation.{Relation}
use Rattle.model.specs.declared.relation.Relation.TheVariants.{Unrelated, Customer, Peer, Provider}
use Rattle.model.specs.Selection.{Choice, nothing, local, via, Order, rank, usable, better, best, choose, Said}
use Rattle.model.specs.SelectionLaws.{Agreed, NotBelow}
use Rattle.model.proofs.Chosen.{at_home, own_home}
use Rattle.model.proofs.Ranks.{rank_decides_lem}
use Rattle.model.specs.Export.{may_tell, in_front, told}
use Rattle.model.specs.World.{World, RankFirst, Sound, rel_at}
use Rattle.convergence.specs.Channels.{Lawful}
use Rattle.model.specs.Levels.{Heights, level_to, level}
use Rattle.convergence.specs.Levels.{LowerDecides, system}

-- the ranks below which a neighbour that is so related may be told
abbrev threshold : Relation → ℕ
threshold Unrelated = 1
threshold Customer = 3
threshold Peer = 1
threshold Provider = 1

untold : (from to : Relation) → threshold to ≤ rank from → may_tell from to ≡ false
untold Unrelated Unrelated h = refl
untold Unrelated Customer h = refl
untold Unrelated Peer h = refl
untold Unrelated Provider h = refl
untold Customer Unrelated h = refl
untold Customer Customer h = absurd (omega arith)
untold Customer Peer h = absurd (omega arith)
untold Customer Provider h = absurd (omega arith)
untold Peer Unrelated h = refl
untold Peer Customer h = absurd (omega arith)
untold Peer Peer h = refl
untold Peer Provider h = refl
untold Provider Unrelated h = refl
untold Provider Customer h = absurd (omega arith)
untold Provider Peer h = refl
untold Provider Provider h = refl

-- of what is not below the threshold nothing is told
none_told : (rel : ℕ → Relation) (me k : ℕ) (c : Choice) → (c ≡ local → ⊥) → NotBelow (threshold (rel k)) rel c → told rel me k c ≡ None
none_told rel me k nothing away h = refl
none_told rel me k local away h = absurd (away refl)
none_told rel me k (via j p) away h = ap (λ t. cond t (in_front me p) None) (untold (rel j) (rel k) h)

-- a neighbour below the threshold tells over a channel of lower level
lower_to : (n hi hj : ℕ) (j k back : Relation) → back ≡ opposite j → hi < n → hj < n → (j ≡ Customer → hj < hi) → (back ≡ Customer → hi < hj) → rank j < threshold k → level_to n hj back < level_to n hi k
lower_to n hi hj Unrelated Unrelated back e a b c d l = absurd (omega arith)
lower_to n hi hj Unrelated Customer back e a b c d l = absurd (omega arith)
lower_to n hi hj Unrelated Peer back e a b c d l = absurd (omega arith)
lower_to n hi hj Unrelated Provider back e a b c d l = absurd (omega arith)
lower_to n hi hj Customer Unrelated back e a b c d l = let s = ap (level_to n hj) e in let f = c refl in omega arith
lower_to n hi hj Customer Customer back e a b c d l = let s = ap (level_to n hj) e in let f = c refl in omega arith
lower_to n hi hj Customer Peer back e a b c d l = let s = ap (level_to n hj) e in let f = c refl in omega arith
lower_to n hi hj Customer Provider back e a b c d l = let s = ap (level_to n hj) e in let f = c refl in omega arith
lower_to n hi hj Peer Unrelated back e a b c d l = absurd (omega arith)
lower_to n hi hj Peer Customer back e a b c d l = let s = ap (level_to n hj) e in omega arith
lower_to n hi hj Peer Peer back e a b c d l = absurd (omega arith)
lower_to n hi hj Peer Provider back e a b c d l = absurd (omega arith)
lower_to n hi hj Provider Unrelated back e a b c d l = absurd (omega arith)
lower_to n hi hj Provider Customer back e a b c d l = let s = ap (level_to n hj) e in let f = d e in omega arith
lower_to n hi hj Provider Peer back e a b c d l = absurd (omega arith)
lower_to n hi hj Provider Provider back e a b c d l = absurd (omega arith)

below_most : (n hi : ℕ) (k : Relation) → hi < n → (k ≡ Customer → 0 < hi) → level_to n hi k < 2 * n
below_most n hi Unrelated a b = omega arith
below_most n hi Customer a b = let f = b refl in omega arith
below_most n hi Peer a b = omega arith
below_most n hi Provider a b = omega arith

-- the best of the candidates of networks below n is decided by those
pub same_best : (first : Order) (r q : ℕ → Said) (n : ℕ) → ((j : ℕ) → j < n → r j ≡ q j) → best first r n ≡ best first q n
same_best first r q zero h = refl
same_best first r q (suc n) h = λ x. better first (same_best first r q n (λ j l. h j (omega arith)) x) n (h n (omega arith) x)

-- agreed below the threshold of neighbour k, it is told the same
same_told : (rel : ℕ → Relation) (me k : ℕ) (a b : Choice) → (a ≡ local → ⊥) → (b ≡ local → ⊥) → Agreed (threshold (rel k)) rel a b → told rel me k a ≡ told rel me k b
same_told rel me k a b na nb h =
    ⊎_elim
    (λ s. ap (told rel me k) (s.3 ∙ sym s.4))
    (λ s. none_told rel me k a na s.0 ∙ sym (none_told rel me k b nb s.1))
    h

module _ (order : ℕ → Order) (w : World) (sound : Sound w) (height : ℕ → ℕ) (stands : Heights w height) (b : ℕ) (ranked : (i : ℕ) → i < w.n → RankFirst (rel_at w i) (order i)) where
  lower : (i j k : ℕ) → i < w.n → j < w.n → rank (w.rel i j) < threshold (w.rel i k) → level w height j i < level w height i k
  lower i j k hi hj l =
      lower_to w.n (height i) (height j) (w.rel i j) (w.rel i k) (w.rel j i) (sound.both i j hi hj)
      (stands.within i hi) (stands.within j hj) (stands.falls i j hi hj) (stands.falls j i hj hi) l

  abbrev chosen : (ℕ → Bool) → ℕ → (ℕ → Said) → Choice
  chosen up i says = choose (order i) (w.rel i) up i (w.is_home b i) says w.n

  law : (up : ℕ → Bool) (i k : ℕ) (r q : ℕ → Said) → i < w.n → ((j : ℕ) → j < w.n → level w height j i < level w height i k → r j ≡ q j) → told (w.rel i) i k (chosen up i r) ≡ told (w.rel i) i k (chosen up i q)
  law up i k r q hi same =
      ⊎_elim
      (λ e. ap (told (w.rel i) i k) (at_home (order i) (w.rel i) up i (w.is_home b i) r w.n e ∙ sym (at_home (order i) (w.rel i) up i (w.is_home b i) q w.n e)))
      (λ ne. same_told (w.rel i) i k (chosen up i r) (chosen up i q)
      (λ f. both_ways (w.is_home b i) ne ((own_home (order i) (w.rel i) up i (w.is_home b i) r w.n).0 f))
      (λ f. both_ways (w.is_home b i) ne ((own_home (order i) (w.rel i) up i (w.is_home b i) q w.n).0 f))
      (rank_decides_lem (order i) (w.rel i) (ranked i hi) (threshold (w.rel i k)) i (w.is_home b i) w.n up up r q
      (λ j hj l. ap (λ s. cond (related (w.rel i j) && up j) (usable i s) None) (same j hj (lower i j k hi hj l)))))
      (cases_Bool (w.is_home b i))

  pub lawful_by : Lawful (system order w height b)
  lawful_by =
      record {
        low = λ i k hi hk. below_most w.n (height i) (w.rel i k) (stands.within i hi) (λ e. let f = stands.falls i k hi hk e in omega arith);
        law = λ up i k r q hi hk same. ap (λ s. cond (up k) s None) (law up i k r q hi same);
        all = λ up i r q hi same. ap (cond (w.is_home b i) local) (same_best (order i) _ _ w.n (λ j hj. ap (λ s. cond (related (w.rel i j) && up j) (usable i s) None) (same j hj)));
      }

-- in the order in which the networks of a world select
pub lawful : (w : World) (sound : Sound w) (height : ℕ → ℕ) (stands : Heights w height) (b : ℕ) → Lawful (system w.order w height b)
lawful w sound height stands b = lawful_by w.order w sound height stands b sound.ranked

pub lower_decides : LowerDecides
lower_decides order w height b sound stands ranked = lawful_by order w sound height stands b ranked
