-- What a network will have received once all that is in flight to it is heard. Assumes nothing.
use Rattle.std.proofs.Common.{◌≡◌, ℕ, zero, suc, Bool, true, false, cond, not, ◌&&◌, eqb, ltb, List, [], ◌∷◌, ◌++◌, sym, refl, ap, ◌∙◌, subst, ⊎_elim, arith}
use Rattle.std.specs.List.{AllByRecursion}
use Rattle.std.proofs.lemmas.List.{map-append}
use Rattle.std.proofs.lemmas.Bool.{cases_eq, cond_both, cond-false, eqb-true, and_left, and_right}
use Rattle.std.proofs.lemmas.Bool.Decides.{nat_tests}
use Rattle.model.proofs.Gathered.{gather_none}
use Rattle.model.specs.Export.{same_saying}
use Rattle.model.proofs.Sayings.{same_saying_decides_lem}
use Rattle.model.specs.World.{World}
use Rattle.model.specs.Selection.{Said}
use Rattle.model.specs.Local.{Update, Local, due, retold, sends, sent, tells_now}
use Rattle.model.specs.Lists.{gather}
use Rattle.model.specs.Run.{Item, update, packet, NoUpdate, updates}
use Rattle.model.specs.Promise.{ProperItem, ProperSaying}

-- of block b, where `d` was received before
abbrev pub newest : ℕ → List Item → Said → Said
newest b [] d = d
newest b (update u ∷ rest) d = newest b rest (cond (eqb b u.block) u.says d)
newest b (packet p ∷ rest) d = newest b rest d

pub newest_append : (b : ℕ) (xs ys : List Item) (d : Said) → newest b (xs ++ ys) d ≡ newest b ys (newest b xs d)
newest_append b [] ys d = refl
newest_append b (update u ∷ xs) ys d = newest_append b xs ys (cond (eqb b u.block) u.says d)
newest_append b (packet p ∷ xs) ys d = newest_append b xs ys d

-- where no update is in flight, what was received stays
pub newest_quiet : (b : ℕ) (xs : List Item) (d : Said) → NoUpdate xs → newest b xs d ≡ d
newest_quiet b [] d h = refl
newest_quiet b (update u ∷ xs) d h = absurd h
newest_quiet b (packet p ∷ xs) d h = newest_quiet b xs d h

pub newest_proper : (w : World) (k i b : ℕ) (xs : List Item) (d : Said) → AllByRecursion (ProperItem w k i) xs → ProperSaying w k i b d → ProperSaying w k i b (newest b xs d)
newest_proper w k i b [] d all h = h
newest_proper w k i b (update u ∷ xs) d all h =
    newest_proper w k i b xs _ all.1 (cond_both (eqb b u.block) u.says d (ProperSaying w k i b) (λ e. subst (λ c. ProperSaying w k i c u.says) (sym (eqb-true b u.block e)) all.0.1) (λ _. h))
newest_proper w k i b (packet p ∷ xs) d all h = newest_proper w k i b xs d all.1 h

-- a list of at most one update for each block
module _ (t : ℕ → Bool) (x : ℕ → Said) where
  abbrev each : ℕ → List Update
  each c = cond (t c) (record { block = c; says = x c } ∷ []) []

  newest_each : (b c : ℕ) (d : Said) → newest b (updates (each c)) d ≡ cond (t c) (cond (eqb b c) (x c) d) d
  newest_each b c d = by (t c)
    where
      by : (z : Bool) → newest b (updates (cond z (record { block = c; says = x c } ∷ []) [])) d ≡ cond z (cond (eqb b c) (x c) d) d
      by true = refl
      by false = refl

  newest_gather : (b m : ℕ) (d : Said) → newest b (updates (gather each m)) d ≡ cond (ltb b m && t b) (x b) d
  newest_gather b zero d = grind (arith, nat_tests)
  newest_gather b (suc m) d =
      ap (λ l. newest b l d) (map-append update (gather each m) (each m)) ∙
      newest_append b (updates (gather each m)) (updates (each m)) d ∙
      newest_each b m (newest b (updates (gather each m)) d) ∙
      ap (λ z. cond (t m) (cond (eqb b m) (x m) z) z) (newest_gather b m d) ∙
      ⊎_elim
      (λ e. let f = ap t e in let g = ap x e in grind (arith, nat_tests, f, g))
      (λ ne. grind (arith, nat_tests))
      (cases_eq b m)

-- what is sent carries what is then advertised
pub newest_sent : (w : World) (i : ℕ) (these : ℕ → Bool) (l : Local) (b k : ℕ) → newest b (updates (sent w i these l k)) (l.advertised b k) ≡ (retold w i these l).advertised b k
newest_sent w i these l b k =
    newest_gather (λ c. sends w i these l c k) (λ c. tells_now w i l c k) b w.blocks (l.advertised b k) ∙
    by (due w these l b k) (same_saying (tells_now w i l b k) (l.advertised b k)) refl (same_saying_decides_lem (tells_now w i l b k) (l.advertised b k)).0
  where
    by : (d e : Bool) → due w these l b k ≡ d → (e ≡ true → tells_now w i l b k ≡ l.advertised b k) → cond (ltb b w.blocks && (d && not e)) (tells_now w i l b k) (l.advertised b k) ≡ cond d (tells_now w i l b k) (l.advertised b k)
    by true true f h = grind (arith, nat_tests)
    by true false f h = grind (arith, nat_tests)
    by false e f h = grind (arith, nat_tests)

-- nothing is sent over a link that is down
pub none_sent : (w : World) (i : ℕ) (these : ℕ → Bool) (l : Local) (k : ℕ) → l.up k ≡ false → sent w i these l k ≡ []
none_sent w i these l k down = gather_none _ w.blocks (λ c _. cond-false (sends w i these l c k) _ _ (and_left _ _ (and_right _ _ down)))
