-- What a network sends as it tells anew, or as it hands a packet on, is proper, goes over links that are up, and says what it
-- then has advertised. Assumes nothing.
use Rattle.std.proofs.Common.{◌≡◌, ℕ, zero, suc, ◌<◌, Bool, false, cond, eqb, [], ◌∷◌, Some, None, Option, refl, ap, ◌∙◌}
use Rattle.std.specs.List.{AllByRecursion}
use Rattle.std.proofs.ByRecursion.{All-map}
use Rattle.std.proofs.lemmas.Bool.{and_parts, both_ways, cond_both, eqb-true}
use Rattle.model.specs.Selection.{Choice, nothing, local, via}
use Rattle.model.specs.Paths.{Path}
use Rattle.model.specs.World.{World, Sound}
use Rattle.model.specs.Local.{Local, choice, due, retold, sends, sent, tells_now}
use Rattle.model.specs.Packets.{Packet, Forwarded, arrived, dropped, handed, forwarded, by_choice, hand, of_block, Lookup}
use Rattle.model.specs.Run.{update, packet, NoUpdate, onward, updates}
use Rattle.model.specs.Promise.{ProperItem}
use Rattle.model.specs.RouterLaws.{HoldsProper}
use Rattle.model.proofs.Gathered.{gather_all}
use Rattle.convergence.proofs.Newest.{newest_sent, newest_quiet, none_sent}
use Rattle.convergence.proofs.Dues.{due_is}
use Rattle.convergence.proofs.Goodness.{chosen_is, tells_proper}
use Rattle.convergence.proofs.Emitting.{Emits}

-- telling anew
pub tells_emits : (w : World) → Sound w → (i : ℕ) (these : ℕ → Bool) (l : Local) → i < w.n → HoldsProper w i l → Emits w i l (retold w i these l) (λ k. updates (sent w i these l k))
tells_emits w sound i these l hi held =
    record {
      up = λ k. refl;
      received = λ b k. refl;
      newest = λ b k. newest_sent w i these l b k;
      idle = λ k down. ap updates (none_sent w i these l k down);
      proper = λ k. All-map (ProperItem w k i) update (sent w i these l k) (gather_all (λ u. ProperItem w k i (update u)) _ w.blocks (λ c hc. one k c hc));
    }
  where
    one : (k c : ℕ) → c < w.blocks → AllByRecursion (λ u. ProperItem w k i (update u)) (cond (sends w i these l c k) (record { block = c; says = tells_now w i l c k } ∷ []) [])
    one k c hc = cond_both (sends w i these l c k) (record { block = c; says = tells_now w i l c k } ∷ []) [] (AllByRecursion (λ u. ProperItem w k i (update u))) (λ e. ((hc, tells_proper w sound i k hi (due_is w these l c k (and_parts (due w these l c k) _ e).0).there c l held), tt)) (λ _. tt)

-- a packet goes on over a link that is up
pub onward_quiet : (o : Forwarded) (k : ℕ) → NoUpdate (onward o k)
onward_quiet arrived k = tt
onward_quiet (dropped why) k = tt
onward_quiet (handed j p) k = cond_both (eqb k j) (packet p ∷ []) [] NoUpdate (λ _. tt) (λ _. tt)

onward_proper : (w : World) (i : ℕ) (o : Forwarded) (k : ℕ) → AllByRecursion (ProperItem w k i) (onward o k)
onward_proper w i arrived k = tt
onward_proper w i (dropped why) k = tt
onward_proper w i (handed j p) k = cond_both (eqb k j) (packet p ∷ []) [] (AllByRecursion (ProperItem w k i)) (λ _. (tt, tt)) (λ _. tt)

module _ (w : World) (i : ℕ) (l : Local) (p : Packet) (k : ℕ) (down : l.up k ≡ false) where
  handed_idle : (b j : ℕ) (path : Path) → choice w i l b ≡ via j path → (hops : ℕ) → onward (hand p.address j hops) k ≡ []
  handed_idle b j path e zero = refl
  handed_idle b j path e (suc hops) =
      cond_both (eqb k j) (packet (record { address = p.address; hops = hops }) ∷ []) [] (λ xs. xs ≡ [])
      (λ f. absurd (both_ways (l.up k) down (ap l.up (eqb-true k j f) ∙ (chosen_is w i l b j path e).up)))
      (λ _. refl)

  chosen_idle : (b : ℕ) (c : Choice) → choice w i l b ≡ c → onward (by_choice p c) k ≡ []
  chosen_idle b nothing e = refl
  chosen_idle b local e = refl
  chosen_idle b (via j path) e = handed_idle b j path e p.hops

  onward_idle : (o : Option ℕ) → onward (of_block w i l p o) k ≡ []
  onward_idle None = refl
  onward_idle (Some b) = cond_both (w.is_home b i) arrived (by_choice p (choice w i l b)) (λ x. onward x k ≡ []) (λ _. refl) (λ _. chosen_idle b (choice w i l b) refl)

pub packet_emits : (w : World) (find : Lookup) (i : ℕ) (l : Local) (p : Packet) → Emits w i l l (onward (forwarded w find i l p))
packet_emits w find i l p =
    record {
      up = λ k. refl;
      received = λ b k. refl;
      newest = λ b k. newest_quiet b (onward (forwarded w find i l p) k) (l.advertised b k) (onward_quiet (forwarded w find i l p) k);
      idle = λ k down. onward_idle w i l p k down (find p.address);
      proper = onward_proper w i (forwarded w find i l p);
    }
