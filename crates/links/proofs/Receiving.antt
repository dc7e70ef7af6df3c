-- What a taken update leaves in the received table. Assumes nothing.
use Rattle.std.proofs.Common.{◌≡◌, ℕ, ◌<◌, ◌≤◌, Bool, true, false, cond, ◌&&◌, ◌||◌, eqb, ltb, leb, List, length, take, Some, None, sym, refl, ap, ◌∙◌, arith}
use Rattle.std.proofs.lemmas.List.{length-take-le}
use Rattle.std.proofs.lemmas.Bool.{leb-false}
use Rattle.std.proofs.lemmas.Bool.Decides.{nat_tests}
use Rattle.model.specs.Hearing.{after_hearing, hearing_fault, only, replaced, unless}
use Rattle.model.specs.Local.{Update, Local, at, retold}
use Rattle.model.specs.Selection.{Said}
use Rattle.model.specs.World as rules
use Rattle.model.specs.declared.limits.TheConstants.{MOST_NETWORKS}
use Rattle.model.proofs.Faults.{faultless}
use Rattle.selection.specs.Paths.{count, row}
use Rattle.selection.specs.Rows.{with_row}
use Rattle.selection.specs.Worlds.{world_of}
use Rattle.selection.specs.declared.table.PathTable.{PathTable}
use Rattle.selection.specs.declared.world.World.{World}
use Rattle.advertisement.specs.Updates.{networks_of, news, padded}
use Rattle.advertisement.specs.declared.update.Announcement.{Announcement}
use Rattle.advertisement.specs.declared.update.Update.{Update as Message}
use Rattle.advertisement.specs.declared.update.Update.TheVariants.{Announce, Withdraw}
use Rattle.links.specs.Held.{blocks_of, fits, held, links_up, number_of, then_held, world_for}
use Rattle.links.specs.declared.router.Router.{Router}
use Rattle.links.specs.declared.tables.Tables.{Tables}
use Rattle.links.proofs.Faults.{length_padded}

row_at : (rows : ℕ → ℕ → Said) (block j : ℕ) (says : Said) (b k : ℕ) → with_row rows block j says b k ≡ at block (at j says (rows block)) rows b k
row_at rows block j says b k = grind (arith, nat_tests)

abbrev pub with_received : Local → (ℕ → ℕ → Said) → Local
with_received s rows = record { up = s.up; received = rows; advertised = s.advertised }

pub replaced_is : (s : Local) (j : ℕ) (u : Update) (rows : ℕ → ℕ → Said) → ((b k : ℕ) → rows b k ≡ with_row s.received u.block j u.says b k) → with_received s rows ≡ replaced j u s
replaced_is s j u rows h = λ x. record { up = s.up; received = λ b k. (h b k ∙ row_at s.received u.block j u.says b k) x; advertised = s.advertised }

-- an update that is not refused is of a block and from a network that there are
pub there : (w : rules.World) (i : ℕ) (s : Local) (j : ℕ) (u : Update) → hearing_fault w i s j u ≡ None → (u.block < w.blocks) × (j < w.n)
there w i s j u e = let h = faultless w i s j u e in (leb-false w.blocks u.block h.block, leb-false w.n j h.port)

-- what fits has its place, and has a path
pub placed_by : (t : PathTable) (j : ℕ) (a : Announcement) (p : List ℕ) → length a.networks ≡ MOST_NETWORKS → Some p ≡ networks_of a → fits (count t) j (Announce a) ≡ true → (ltb a.block (count t) && ltb j MOST_NETWORKS && ltb 0 (length p) && leb (length p) MOST_NETWORKS) ≡ true
placed_by t j a p room e h = is (ltb a.block (count t)) (ltb j MOST_NETWORKS) a.length p (take a.length a.networks) (λ short. length-take-le a.length a.networks (omega arith)) e h
  where
    is : (x y : Bool) (k : ℕ) (p q : List ℕ) → (k ≤ MOST_NETWORKS → length q ≡ k) → Some p ≡ cond (ltb 0 k && leb k MOST_NETWORKS) (Some q) None → (x && y && ltb 0 k && leb k MOST_NETWORKS) ≡ true → (x && y && ltb 0 (length p) && leb (length p) MOST_NETWORKS) ≡ true
    is x y k p q long e h = let same : (p ≡ q) × (k ≤ MOST_NETWORKS) = grind (arith, nat_tests) in let l = ap length same.0 ∙ long same.1 in ap (λ m. x && y && ltb 0 m && leb m MOST_NETWORKS) l ∙ h

pub has_path : (t : PathTable) (j : ℕ) (a : Announcement) → None ≡ networks_of a → fits (count t) j (Announce a) ≡ true → ◌≡◌ {A = ℕ} 0 1
has_path t j a e h = is (ltb a.block (count t)) (ltb j MOST_NETWORKS) a.length (take a.length a.networks) e h
  where
    is : (x y : Bool) (k : ℕ) (q : List ℕ) → None ≡ cond (ltb 0 k && leb k MOST_NETWORKS) (Some q) None → (x && y && ltb 0 k && leb k MOST_NETWORKS) ≡ true → ◌≡◌ {A = ℕ} 0 1
    is x y k q e h = grind (arith, nat_tests)

pub same_world : (world : World) (t u : Tables) → blocks_of t ≡ blocks_of u → world_for world t ≡ world_for world u
same_world world t u e = ap (world_of world) e

-- a taken update, and then its block told anew
pub heard_is : (w : rules.World) (i : ℕ) (s : Local) (j : ℕ) (u : Update) → hearing_fault w i s j u ≡ None → retold w i (only u.block) (replaced j u s) ≡ after_hearing w i j u s
heard_is w i s j u none = ap (λ f. unless f s (retold w i (only u.block) (replaced j u s))) (sym none)

-- telling leaves what was received
pub then_is : (r : Router) (t u : Tables) → t.received ≡ u.received → then_held r t u ≡ held r u
then_is r t u e = λ x. record { up = links_up r; received = row (e x); advertised = row u.advertised }

-- an update that is not refused has its place
pub fitting : (world : World) (t : Tables) (self : Router) (j : ℕ) (u : Message) → hearing_fault (world_for world t) (number_of self) (held self t) j (news u) ≡ None → fits (count t.received) j u ≡ true
fitting world t self j (Announce a) e =
    let w = world_for world t in
    let h = faultless w (number_of self) (held self t) j (news (Announce a)) e in
    is a.block j a.length (length (padded a.networks a.length)) (blocks_of t) w.n (leb-false w.blocks a.block h.block) (leb-false w.n j h.port) world.relations.now.matrix.few (length_padded a.networks a.length) h.length
  where
    is : (block j k m blocks n : ℕ) → block < blocks → j < n → n ≤ MOST_NETWORKS → m ≡ k → (eqb m 0 || ltb MOST_NETWORKS m) ≡ false → (ltb block blocks && ltb j MOST_NETWORKS && ltb 0 k && leb k MOST_NETWORKS) ≡ true
    is block j k m blocks n h l few same long = grind (arith, nat_tests)
fitting world t self j (Withdraw block) e = refl
