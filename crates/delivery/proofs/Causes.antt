-- A packet arrives at a home of its block alone, and is dropped for its cause. Assumes nothing.
use Rattle.std.proofs.Common.{true, ◌≡◌, ℕ, zero, suc, Some, None, Option, refl}
use Rattle.std.proofs.lemmas.Bool.{cond_both}
use Rattle.model.specs.Selection.{Choice, nothing, local, via}
use Rattle.model.proofs.Chosen.{own_home}
use Rattle.model.specs.World.{World}
use Rattle.model.specs.Local.{Local, choice}
use Rattle.model.specs.Packets.{Packet, Forwarded, arrived, dropped, handed, by_choice, hand, of_block}
use Rattle.model.specs.declared.drop_reason.DropReason.TheVariants.{NoBlock, NoRoute, NoHops}

-- why this becomes of a packet at network i, where its address is in a block or in none
abbrev pub Caused : World → ℕ → Packet → Option ℕ → Forwarded → Type 0
Caused w i p o arrived = (b : ℕ) × (o ≡ Some b) × (w.is_home b i ≡ true)
Caused w i p o (dropped NoBlock) = o ≡ None
Caused w i p o (dropped NoRoute) = Unit {0}
Caused w i p o (dropped NoHops) = p.hops ≡ 0
Caused w i p o (handed k q) = Unit {0}

module _ (w : World) (i : ℕ) (l : Local) (p : Packet) where
  by_hops : (b k hops : ℕ) → p.hops ≡ hops → Caused w i p (Some b) (hand p.address k hops)
  by_hops b k zero e = e
  by_hops b k (suc hops) e = tt

  chosen : (b : ℕ) (c : Choice) → choice w i l b ≡ c → Caused w i p (Some b) (by_choice p c)
  chosen b nothing e = tt
  chosen b local e = (b, refl, (own_home (w.order i) (w.rel i) l.up i (w.is_home b i) (l.received b) w.n).0 e)
  chosen b (via k path) e = by_hops b k p.hops refl

  pub caused : (o : Option ℕ) → Caused w i p o (of_block w i l p o)
  caused None = refl
  caused (Some b) = cond_both (w.is_home b i) arrived (by_choice p (choice w i l b)) (Caused w i p (Some b)) (λ e. (b, refl, e)) (λ _. chosen b (choice w i l b) refl)
