-- What is written reads back, and what stands behind it is left as it is. Assumes nothing.
use Rattle.std.proofs.Common.{◌≡◌, ℕ, suc, ◌+◌, ◌*◌, ◌/◌, ◌%◌, ◌<◌, ◌^◌, Bool, true, false, cond, ◌||◌, eqb, List, [], ◌∷◌, ◌++◌, length, drop, Some, None, Ok, refl, ap, ◌∙◌, arith, length-append}
use Rattle.std.proofs.Math.Seq.{take-append_seam, drop-append_seam}
use Rattle.std.proofs.lemmas.Bool.{cond-true}
use Rattle.std.proofs.lemmas.Bool.Decides.{nat_tests}
use Rattle.text.specs.Dotted.{byte0, byte1, byte2, byte3, address_bytes}
use Rattle.model.specs.Paths.{path_over}
use Rattle.model.specs.Selection.{Said}
use Rattle.messages.specs.Meaning.{Thing, update, packet, turn}
use Rattle.messages.specs.Places.{fits, way_extent, extent}
use Rattle.messages.specs.Faults.{fault}
use Rattle.messages.specs.Reading.{message_in, answer, message_at}
use Rattle.messages.specs.Encoding.{has_bytes, said_fits, update_bytes, thing_bytes}
use Rattle.messages.specs.Laws.{Addressed, WrittenReads}

joined_block : (b : ℕ) → b / 256 * 256 + b % 256 ≡ b
joined_block b = omega arith

joined_address : (a : ℕ) → a < 2 ^ 32 → byte0 a * 16777216 + byte1 a * 65536 + byte2 a * 256 + byte3 a ≡ a
joined_address a h = omega arith

-- where nothing is told, the answer is what the bytes say and what is left
answered : (bs : List ℕ) → fault bs ≡ None → message_at bs ≡ Ok (message_in bs, drop (extent bs) bs)
answered bs e = ap (λ t. answer t bs) e

module _ (n : ℕ) (rest : List ℕ) where
  way_clean : (h l : ℕ) (path : List ℕ) → fits (length path) ≡ true → fault (n ∷ 1 ∷ h ∷ l ∷ length path ∷ path ++ rest) ≡ None
  way_clean h l path fit = let long = length-append path rest in grind (arith, nat_tests)

  way : (b : ℕ) (path : List ℕ) → fits (length path) ≡ true → message_at (n ∷ 1 ∷ b / 256 ∷ b % 256 ∷ length path ∷ path ++ rest) ≡ Ok (record { network = n; thing = update (record { block = b; says = Some (path_over path) }) }, rest)
  way b path fit =
      let reach : way_extent (length path) ≡ suc (suc (suc (suc (suc (length path))))) = ap (λ b. 5 + cond b (length path) 0) fit ∙ omega arith in
      let bs : List ℕ = n ∷ 1 ∷ b / 256 ∷ b % 256 ∷ length path ∷ path ++ rest in
      answered bs (way_clean (b / 256) (b % 256) path fit) ∙
      (λ i. Ok (record { network = n; thing = update (record { block = joined_block b i; says = Some (path_over (take-append_seam path rest i)) }) }, drop (reach i) bs)) ∙
      (λ i. Ok (record { network = n; thing = update (record { block = b; says = Some (path_over path) }) }, drop-append_seam path rest i))

  withdrawal_clean : (h l : ℕ) → fault (n ∷ 2 ∷ h ∷ l ∷ rest) ≡ None
  withdrawal_clean h l = grind (arith, nat_tests)

  withdrawal : (b : ℕ) → message_at (n ∷ 2 ∷ b / 256 ∷ b % 256 ∷ rest) ≡ Ok (record { network = n; thing = update (record { block = b; says = None }) }, rest)
  withdrawal b =
      answered (n ∷ 2 ∷ b / 256 ∷ b % 256 ∷ rest) (withdrawal_clean (b / 256) (b % 256)) ∙
      (λ i. Ok (record { network = n; thing = update (record { block = joined_block b i; says = None }) }, rest))

  packet_clean : (a b c d hops : ℕ) → fault (n ∷ 3 ∷ a ∷ b ∷ c ∷ d ∷ hops ∷ rest) ≡ None
  packet_clean a b c d hops = grind (arith, nat_tests)

  carried : (a hops : ℕ) → a < 2 ^ 32 → message_at (n ∷ 3 ∷ address_bytes a ++ hops ∷ rest) ≡ Ok (record { network = n; thing = packet (record { address = a; hops = hops }) }, rest)
  carried a hops short =
      answered (n ∷ 3 ∷ address_bytes a ++ hops ∷ rest) (packet_clean (byte0 a) (byte1 a) (byte2 a) (byte3 a) hops) ∙
      (λ i. Ok (record { network = n; thing = packet (record { address = joined_address a short i; hops = hops }) }, rest))

  turn_clean : (other s : ℕ) → (eqb s 0 || eqb s 1) ≡ true → fault (n ∷ 4 ∷ other ∷ s ∷ rest) ≡ None
  turn_clean other s e = grind (arith, nat_tests)

  turned : (other : ℕ) (up : Bool) → message_at (n ∷ 4 ∷ other ∷ cond up 1 0 ∷ rest) ≡ Ok (record { network = n; thing = turn other up }, rest)
  turned other true = answered (n ∷ 4 ∷ other ∷ 1 ∷ rest) (turn_clean other 1 refl)
  turned other false = answered (n ∷ 4 ∷ other ∷ 0 ∷ rest) (turn_clean other 0 refl)

  updated : (b : ℕ) (says : Said) → said_fits says ≡ true → message_at (n ∷ update_bytes b says ++ rest) ≡ Ok (record { network = n; thing = update (record { block = b; says = says }) }, rest)
  updated b None fit = withdrawal b
  updated b (Some path) fit = way b path.networks fit

  thing_reads : (t : Thing) → has_bytes t ≡ true → Addressed t → message_at (n ∷ thing_bytes t ++ rest) ≡ Ok (record { network = n; thing = t }, rest)
  thing_reads (update u) has short = updated u.block u.says has
  thing_reads (packet p) has short = carried p.address p.hops short
  thing_reads (turn other up) has short = turned other up

pub written_reads : WrittenReads
written_reads m rest w =
    (λ i. message_at (cond-true (has_bytes m.thing) (m.network ∷ thing_bytes m.thing) [] w.has_bytes i ++ rest)) ∙
    thing_reads m.network rest m.thing w.has_bytes w.addressed
