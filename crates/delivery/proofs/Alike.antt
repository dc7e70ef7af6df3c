-- Whether two ends are the same. Assumes nothing.
use Rattle.std.proofs.Common.{◌≡◌, ℕ, zero, suc, Bool, true, ◌&&◌, eqb, refl, ap, ◌∙◌, sym, arith}
use Rattle.std.proofs.lemmas.Bool.{and_parts, eqb-true}
use Rattle.std.proofs.lemmas.Bool.Decides.{nat_tests}
use Rattle.model.specs.declared.drop_reason.DropReason.{DropReason}
use Rattle.model.specs.declared.drop_reason.DropReason.TheVariants.{NoBlock, NoRoute, NoHops}
use Rattle.model.specs.Packets.{Trip, arrives, lost, on_its_way}
use Rattle.model.specs.Ends.{Ended}

-- a trip as four numbers, and back
abbrev kind : Trip → ℕ
kind (arrives i n) = 0
kind (lost i n why) = 1
kind (on_its_way i) = 2

abbrev place : Trip → ℕ
place (arrives i n) = i
place (lost i n why) = i
place (on_its_way i) = i

abbrev steps : Trip → ℕ
steps (arrives i n) = n
steps (lost i n why) = n
steps (on_its_way i) = 0

abbrev cause : DropReason → ℕ
cause NoBlock = 0
cause NoRoute = 1
cause NoHops = 2

abbrev causes : Trip → ℕ
causes (arrives i n) = 0
causes (lost i n why) = cause why
causes (on_its_way i) = 0

abbrev why_of : ℕ → DropReason
why_of zero = NoBlock
why_of (suc zero) = NoRoute
why_of (suc (suc c)) = NoHops

abbrev trip_of : ℕ → ℕ → ℕ → ℕ → Trip
trip_of zero i n c = arrives i n
trip_of (suc zero) i n c = lost i n (why_of c)
trip_of (suc (suc k)) i n c = on_its_way i

why_back : (why : DropReason) → why_of (cause why) ≡ why
why_back NoBlock = refl
why_back NoRoute = refl
why_back NoHops = refl

trip_back : (t : Trip) → trip_of (kind t) (place t) (steps t) (causes t) ≡ t
trip_back (arrives i n) = refl
trip_back (lost i n why) = ap (lost i n) (why_back why)
trip_back (on_its_way i) = refl

-- the test whether two ends are the same
abbrev pub alike : Ended → Ended → Bool
alike d e = eqb d.address e.address && (eqb (kind d.trip) (kind e.trip) && (eqb (place d.trip) (place e.trip) && (eqb (steps d.trip) (steps e.trip) && eqb (causes d.trip) (causes e.trip))))

pub same_end : (d e : Ended) → alike d e ≡ true → d ≡ e
same_end d e h =
    let a = and_parts _ _ h in
    let k = and_parts _ _ a.1 in
    let p = and_parts _ _ k.1 in
    let s = and_parts _ _ p.1 in
    let trips : d.trip ≡ e.trip = sym (trip_back d.trip) ∙ (λ y. trip_of (eqb-true (kind d.trip) (kind e.trip) k.0 y) (eqb-true (place d.trip) (place e.trip) p.0 y) (eqb-true (steps d.trip) (steps e.trip) s.0 y) (eqb-true (causes d.trip) (causes e.trip) s.1 y)) ∙ trip_back e.trip in
    (λ y. record { address = eqb-true d.address e.address a.0 y; trip = trips y })

pub own_end : (e : Ended) → alike e e ≡ true
own_end e = grind (arith, nat_tests)
