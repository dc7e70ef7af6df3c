-- What the fate of a packet is that is sent where no update is in flight. Assumes nothing.
use Rattle.std.proofs.Common.{true, false, refl, ◌≡◌, ℕ, zero, suc, ◌<◌, ◌≤◌, length, Some, None, ap, ◌∙◌, subst, sym, arith}
use Rattle.std.proofs.lemmas.Bool.{cond-false}
use Rattle.model.specs.Selection.{nothing, via}
use Rattle.model.specs.World.{World}
use Rattle.model.specs.Local.{Local, choice}
use Rattle.model.specs.Packets.{Trip, Packet, Forwarded, arrived, dropped, handed, forwarded, by_choice, of_block, arrives, lost, ending, trip, Lookup}
use Rattle.model.specs.declared.drop_reason.DropReason.TheVariants.{NoBlock, NoRoute}
use Rattle.model.specs.Run.{State, fresh}
use Rattle.model.specs.Paths.{Path}
use Rattle.model.specs.Promise.{Arrive, ArrivesHome}
use Rattle.convergence.proofs.Arrival.{arrive}
use Rattle.model.specs.Ends.{fate, steps_of}
use Rattle.model.specs.PacketLaws.{FatesAtHome}
use Rattle.delivery.proofs.Fates.{fate_is, then}

-- a trip that arrives at a home does so too with more fuel
module _ (w : World) (find : Lookup) (locals : ℕ → Local) (b count : ℕ) where
  longer : (fuel more : ℕ) → fuel ≤ more → (steps i : ℕ) (p : Packet) → ArrivesHome w b count (trip w find locals fuel steps i p) → ArrivesHome w b count (trip w find locals more steps i p)
  longer zero more l steps i p e = absurd e
  longer (suc fuel) zero l steps i p e = absurd (omega arith)
  longer (suc fuel) (suc more) l steps i p e = further (λ j q f. longer fuel more (omega arith) (suc steps) j q f) (forwarded w find i (locals i) p) e
    where
      further : ((j : ℕ) (q : Packet) → ArrivesHome w b count (trip w find locals fuel (suc steps) j q) → ArrivesHome w b count (trip w find locals more (suc steps) j q)) → (o : Forwarded) → ArrivesHome w b count (ending (λ j q. trip w find locals fuel (suc steps) j q) i steps o) → ArrivesHome w b count (ending (λ j q. trip w find locals more (suc steps) j q) i steps o)
      further on arrived f = f
      further on (dropped why) f = f
      further on (handed j q) f = on j q f

module _ (w : World) (find : Lookup) (s : State) (i : ℕ) (p : Packet) (new : steps_of p ≡ 0) where
  -- a packet that is not handed on
  at_once : (o : Forwarded) → forwarded w find i (s.locals i) p ≡ o → (t : Trip) → (then w find s.locals i p o).trip ≡ t → (fate w find s.locals i p).trip ≡ t
  at_once o f t g = ap (λ e. e.trip) (fate_is w find s.locals i p o f) ∙ g

  home_at_once : (h : Arrive w find s) (b : ℕ) → find p.address ≡ Some b → w.is_home b i ≡ true → (fate w find s.locals i p).trip ≡ arrives i 0
  home_at_once h b at home = at_once arrived (h.home i b p at home) (arrives i 0) (ap (arrives i) new)

  by_path : (h : Arrive w find s) (b j : ℕ) (path : Path) → i < w.n → b < w.blocks → find p.address ≡ Some b → choice w i (s.locals i) b ≡ via j path → length path.networks ≤ p.hops → ArrivesHome w b (length path.networks) (fate w find s.locals i p).trip
  by_path h b j path hi hb at c enough =
      subst (λ n. ArrivesHome w b (length path.networks) (trip w find s.locals (suc p.hops) n i p)) (sym new)
      (longer w find s.locals b (length path.networks) (suc (length path.networks)) (suc p.hops) (omega arith) 0 i p (h.exact i b j path p hi hb at c enough))

  none_at_once : (b : ℕ) → find p.address ≡ Some b → w.is_home b i ≡ false → choice w i (s.locals i) b ≡ nothing → (fate w find s.locals i p).trip ≡ lost i 0 NoRoute
  none_at_once b at away c =
      at_once (dropped NoRoute)
      (ap (of_block w i (s.locals i) p) at ∙ cond-false (w.is_home b i) arrived (by_choice p (choice w i (s.locals i) b)) away ∙ ap (by_choice p) c)
      (lost i 0 NoRoute) (ap (λ n. lost i n NoRoute) new)

  no_block_at_once : find p.address ≡ None → (fate w find s.locals i p).trip ≡ lost i 0 NoBlock
  no_block_at_once at = at_once (dropped NoBlock) (ap (of_block w i (s.locals i) p) at) (lost i 0 NoBlock) (ap (λ n. lost i n NoBlock) new)

pub fates_at_home : FatesAtHome
fates_at_home w find sound s run quiet i address hi =
    let h = arrive w find sound s run quiet in
    record {
      kept = refl;
      at_home = λ b at home. home_at_once w find s i (fresh address) (omega arith) h b at home;
      over_path = λ b j path hb at c.
          let few = sound.few in
          let short = h.enough i b j path hi c in
          by_path w find s i (fresh address) (omega arith) h b j path hi hb at c (omega (arith, few, short));
      no_path = λ b at away c. none_at_once w find s i (fresh address) (omega arith) b at away c;
      no_block = λ at. no_block_at_once w find s i (fresh address) (omega arith) at;
    }
