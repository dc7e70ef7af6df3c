-- When packets arrive, from the stable routing. Assumes nothing.
use Rattle.std.proofs.Common.{◌≡◌, ℕ, ◌<◌, length, Some, None, refl, ap, ◌∙◌, arith}
use Rattle.std.proofs.lemmas.Bool.{eqb-true, eq-eqb, ne_eqb}
use Rattle.model.specs.Ends.{Ended, fate}
use Rattle.model.specs.Local.{choice}
use Rattle.model.specs.Packets.{Trip, arrives, ending, lost, on_its_way, trip}
use Rattle.model.specs.Paths.{Path}
use Rattle.model.specs.Promise.{ArrivesHome}
use Rattle.model.specs.Run.{Quiescent, Reach, State, fresh, links}
use Rattle.model.specs.Selection.{nothing, via}
use Rattle.model.specs.Stable.{stable}
use Rattle.model.specs.World.{Sound}
use Rattle.model.specs.declared.drop_reason.DropReason.TheVariants.{NoBlock, NoRoute}
use Rattle.convergence.proofs.Arrival.{arrive}
use Rattle.convergence.proofs.Quiescence.{settles}
use Rattle.delivery.proofs.Homes.{fates_at_home}
use Rattle.cases.specs.Settings.{Setting, up, world}
use Rattle.cases.specs.Rows.{Arrived, Sent, in_block}
use Rattle.cases.specs.Table.{inside, outside}

-- a block with one home: a packet that arrives does so there
at_the_home : (s : Setting) (steps : ℕ) (t : Trip) → ArrivesHome (world s) 0 steps t → t ≡ arrives s.home steps
at_the_home s steps (arrives i n) h = λ k. arrives (eqb-true i s.home h.0 k) (h.1 k)
at_the_home s steps (lost i n why) h = absurd h
at_the_home s steps (on_its_way i) h = absurd h

-- an end of these parts
ended : (x : Ended) (address : ℕ) (end : Trip) → x.address ≡ address → x.trip ≡ end → x ≡ record { address = address; trip = end }
ended x address end e f = λ k. record { address = e k; trip = f k }

module _ (s : Setting) (sound : Sound (world s)) where
  -- at the home
  pub at_home : Arrived s s.home 0
  at_home at t p run quiet same block hops =
      ap (ending (λ j q. trip (world s) at t.locals 0 1 j q) s.home 0) ((arrive (world s) at sound t run quiet).home s.home 0 p block (eq-eqb s.home s.home refl))

  -- at a network that goes by a path
  pub along : (i j : ℕ) (path : Path) → i < s.networks → stable (world s) (up s) 0 i ≡ via j path → Arrived s i (length path.networks)
  along i j path hi e at t p run quiet same block hops =
      let chosen : choice (world s) i (t.locals i) 0 ≡ via j path = (settles (world s) at sound t run quiet).chosen i 0 hi (omega arith) ∙ ap (λ l. stable (world s) l 0 i) (λ x a b. same a b x) ∙ e in
      at_the_home s (length path.networks) _ ((arrive (world s) at sound t run quiet).exact i 0 j path p hi (omega arith) block chosen hops)

  -- what a network goes by when no update is in flight
  goes : (i : ℕ) → i < s.networks → (t : State) → Reach (world s) in_block t → Quiescent t → ((i j : ℕ) → links t i j ≡ up s i j) → choice (world s) i (t.locals i) 0 ≡ stable (world s) (up s) 0 i
  goes i hi t run quiet same = (settles (world s) in_block sound t run quiet).chosen i 0 hi (omega arith) ∙ ap (λ l. stable (world s) l 0 i) (λ x a b. same a b x)

  -- a packet that is sent to an address in the block, at the home, along a path, or where there is none; and to one in no block
  module _ (i address : ℕ) (hi : i < s.networks) where
    abbrev ends_so : Trip → State → Type 0
    ends_so end t = fate (world s) in_block t.locals i (fresh address) ≡ record { address = address; trip = end }

    so : (t : State) (run : Reach (world s) in_block t) → Quiescent t → (end : Trip) → (fate (world s) in_block t.locals i (fresh address)).trip ≡ end → ends_so end t
    so t run quiet end e = ended (fate (world s) in_block t.locals i (fresh address)) address end ((fates_at_home (world s) in_block sound t run quiet i address hi).kept) e

    pub sent_at_home : in_block address ≡ Some 0 → i ≡ s.home → Sent s i address (arrives s.home 0)
    sent_at_home block home t run quiet same =
        so t run quiet (arrives s.home 0) ((fates_at_home (world s) in_block sound t run quiet i address hi).at_home 0 block (eq-eqb i s.home home) ∙ (λ k. arrives (home k) 0))

    pub sent_along : in_block address ≡ Some 0 → (j : ℕ) (path : Path) → stable (world s) (up s) 0 i ≡ via j path → Sent s i address (arrives s.home (length path.networks))
    sent_along block j path e t run quiet same =
        so t run quiet (arrives s.home (length path.networks)) (at_the_home s (length path.networks) _ ((fates_at_home (world s) in_block sound t run quiet i address hi).over_path 0 j path (omega arith) block (goes i hi t run quiet same ∙ e)))

    pub sent_nowhere : in_block address ≡ Some 0 → (i ≡ s.home → ⊥) → stable (world s) (up s) 0 i ≡ nothing → Sent s i address (lost i 0 NoRoute)
    sent_nowhere block away e t run quiet same =
        so t run quiet (lost i 0 NoRoute) ((fates_at_home (world s) in_block sound t run quiet i address hi).no_path 0 block (ne_eqb i s.home away) (goes i hi t run quiet same ∙ e))

    pub sent_to_no_block : in_block address ≡ None → Sent s i address (lost i 0 NoBlock)
    sent_to_no_block none t run quiet same =
        so t run quiet (lost i 0 NoBlock) ((fates_at_home (world s) in_block sound t run quiet i address hi).no_block none)

pub found_inside : in_block inside ≡ Some 0
found_inside = refl

pub not_outside : in_block outside ≡ None
not_outside = refl
