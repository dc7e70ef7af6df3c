-- A packet that is handed on keeps its fate, and one that ends ends by it. Assumes nothing.
use Rattle.std.proofs.Common.{◌≡◌, ℕ, suc, ◌+◌, ◌<◌, sum_by, ap, ◌∙◌, sym, arith}
use Rattle.model.specs.World.{World}
use Rattle.model.specs.Local.{Local}
use Rattle.model.specs.Packets.{Packet, Forwarded, arrived, dropped, handed, forwarded, ending, trip, Lookup}
use Rattle.model.specs.Run.{onward}
use Rattle.model.specs.Measure.{sum}
use Rattle.convergence.proofs.Hops.{onward_one}
use Rattle.convergence.proofs.Sums.{sum_none}
use Rattle.model.specs.Ends.{Ended, end_at, ends, fate, steps_of}
use Rattle.model.specs.PacketLaws.{HandedOn}
use Rattle.delivery.proofs.Counts.{count}
use Rattle.delivery.proofs.Hops.{hops_fall}

module _ (w : World) (find : Lookup) (locals : ℕ → Local) (i : ℕ) (p : Packet) where
  -- the rest of the trip of a packet at network i
  abbrev pub then : Forwarded → Ended
  then o = record { address = p.address; trip = ending (λ k q. trip w find locals p.hops (suc (steps_of p)) k q) i (steps_of p) o }

  pub fate_is : (o : Forwarded) → forwarded w find i (locals i) p ≡ o → fate w find locals i p ≡ then o
  fate_is o e = ap then e

  fate_on : (k : ℕ) (q : Packet) → forwarded w find i (locals i) p ≡ handed k q → HandedOn w (locals i) p k q → p.hops < 256 → fate w find locals k q ≡ fate w find locals i p
  fate_on k q e h few =
      let steps : steps_of q ≡ suc (steps_of p) = let g = h.hops in omega (arith, g) in
      (λ y. record { address = h.address y; trip = trip w find locals (h.hops y) (steps y) k q }) ∙ sym (fate_is (handed k q) e)

  -- what a packet says that goes on, and what the end says that comes, is what it said before
  pub fate_kept : p.hops < 256 → (f : Ended → ℕ) (o : Forwarded) → forwarded w find i (locals i) p ≡ o → sum w.n (λ k. sum_by (count (λ j q. f (fate w find locals j q)) k) (onward o k)) + sum_by f (ends (end_at i p o)) ≡ f (fate w find locals i p)
  fate_kept few f arrived e = let g = ap f (fate_is arrived e) in let z = sum_none w.n in omega (arith, g, z)
  fate_kept few f (dropped why) e = let g = ap f (fate_is (dropped why) e) in let z = sum_none w.n in omega (arith, g, z)
  fate_kept few f (handed k q) e =
      let h = hops_fall w find i (locals i) p k q e in
      let g = ap f (fate_on k q e h few) in
      let z = onward_one w.n (count (λ j q. f (fate w find locals j q))) k q h.there in
      omega (arith, g, z)

  pub address_kept : (f : ℕ → ℕ) (o : Forwarded) → forwarded w find i (locals i) p ≡ o → sum w.n (λ k. sum_by (count (λ j q. f q.address) k) (onward o k)) + sum_by (λ e. f e.address) (ends (end_at i p o)) ≡ f p.address
  address_kept f arrived e = let z = sum_none w.n in omega (arith, z)
  address_kept f (dropped why) e = let z = sum_none w.n in omega (arith, z)
  address_kept f (handed k q) e =
      let h = hops_fall w find i (locals i) p k q e in
      let g = ap f h.address in
      let z = onward_one w.n (count (λ j q. f q.address)) k q h.there in
      omega (arith, g, z)
