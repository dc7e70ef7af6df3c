-- What holds where a router refuses nothing, and the other way round. Assumes nothing.
use Rattle.std.proofs.Common.{◌≡◌, ℕ, ◌<◌, true, false, not, leb, None, refl}
use Rattle.std.proofs.lemmas.Bool.{lt-leb, not_from_true}
use Rattle.model.specs.Hearing.{bad_length, hearing_checks, hearing_fault, number, of_path, turning_checks, turning_fault}
use Rattle.model.specs.Local.{Local, Update}
use Rattle.model.specs.Packets.{packet_checks, packet_fault}
use Rattle.model.specs.Paths.{begins, below, ends, repeats, valley_free}
use Rattle.model.specs.Ports.{Port, far, ports}
use Rattle.model.specs.Relations.{related}
use Rattle.model.specs.RouterLaws.{LowestIsTold}
use Rattle.model.specs.World.{World, rel_at}
use Rattle.model.proofs.Checks.{first_is_lowest, none_holds, none_told}

-- an update in which nothing is wrong
pub record Faultless (w : World) (i : ℕ) (s : Local) (j : Port) (u : Update) : Type 0 where
  pub length : of_path u.says bad_length ≡ false
  pub within : of_path u.says (λ xs. not (below w.n xs)) ≡ false
  pub port : leb (ports w.n) j ≡ false
  pub block : leb w.blocks u.block ≡ false
  pub related : not (related (rel_at w i j)) ≡ false
  pub up : not (s.up j) ≡ false
  pub first : of_path u.says (λ xs. not (begins (far i j) xs)) ≡ false
  pub last : of_path u.says (λ xs. not (ends (w.is_home u.block) xs)) ≡ false
  pub once : of_path u.says repeats ≡ false
  pub paid : of_path u.says (λ xs. not (valley_free w.rel i xs)) ≡ false

pub faultless : (w : World) (i : ℕ) (s : Local) (j : Port) (u : Update) → hearing_fault w i s j u ≡ None → Faultless w i s j u
faultless w i s j u e =
    let h = none_holds (hearing_checks w i s j u) e in
    record {
      length = h.0;
      within = h.1.0;
      port = h.1.1.0;
      block = h.1.1.1.0;
      related = h.1.1.1.1.0;
      up = h.1.1.1.1.1.0;
      first = h.1.1.1.1.1.1.0;
      last = h.1.1.1.1.1.1.1.0;
      once = h.1.1.1.1.1.1.1.1.0;
      paid = h.1.1.1.1.1.1.1.1.1.0;
    }

pub none_refused : (w : World) (i : ℕ) (s : Local) (j : Port) (u : Update) → Faultless w i s j u → hearing_fault w i s j u ≡ None
none_refused w i s j u h =
    none_told (hearing_checks w i s j u)
    (h.length, (h.within, (h.port, (h.block, (h.related, (h.up, (h.first, (h.last, (h.once, (h.paid, tt))))))))))

pub no_turning_fault : (w : World) (i : ℕ) (j : Port) → j < ports w.n → related (rel_at w i j) ≡ true → turning_fault w i j ≡ None
no_turning_fault w i j l r = none_told (turning_checks w i j) (lt-leb (ports w.n) j l, (not_from_true _ r, tt))

pub no_packet_fault : (w : World) (i : ℕ) (s : Local) (j : Port) → j < ports w.n → related (rel_at w i j) ≡ true → s.up j ≡ true → packet_fault w i s j ≡ None
no_packet_fault w i s j l r u = none_told (packet_checks w i s j) (lt-leb (ports w.n) j l, (not_from_true _ r, (not_from_true _ u, tt)))

pub lowest_is_told : LowestIsTold
lowest_is_told =
    record {
      hearing = λ w i s j u. first_is_lowest number 0 (hearing_checks w i s j u) refl;
      turning = λ w i j. first_is_lowest number 0 (turning_checks w i j) refl;
      packet = λ w i s j. first_is_lowest number 0 (packet_checks w i s j) refl;
    }
