-- The blocks that are read are accepted where no thing has a fault. Assumes nothing.
use Rattle.std.proofs.Common.{◌≡◌, ℕ, List, None, sym, subst, ◌∙◌, ◌<◌, get_or, length, vec_items, arith, ap}
use Rattle.model.specs.Checks.{first_fault}
use Rattle.blocks.specs.Encoding.{encoding}
use Rattle.blocks.specs.declared.block_list.BlockList.{BlockList}
use Rattle.blocks.specs.File.{count, home, each}
use Rattle.blocks.specs.Faults.{head_checks, end_checks, CleanBlocks, Faultless}
use Rattle.blocks.specs.Outcome.{Says, Accepted}
use Rattle.blocks.proofs.Listed.{length_each, each_at}
use Rattle.blocks.proofs.Overlaps.{sound}
use Rattle.blocks.proofs.Decoded.{Bytes, read_encodes}

at_home : (n : ℕ) (bs : List ℕ) (homes : List ℕ) → CleanBlocks n bs (count bs) → homes ≡ each (home bs) (count bs) → (b : ℕ) → b < length homes → get_or homes b 0 < n
at_home n bs homes clean says b h =
    let below : b < count bs = omega (arith, ap length says, length_each (home bs) (count bs)) in
    omega (arith, ap (λ l. get_or l b 0) says, each_at (home bs) (count bs) b below, (sound n bs b (clean b below)).network)

accepted : (n most : ℕ) (bs : List ℕ) (blocks : BlockList) → Bytes bs → Faultless n most bs → Says bs (count bs) blocks → Accepted n most bs blocks
accepted n most bs blocks small none says = record {
  faultless = none;
  says = says;
  networks = at_home n bs (vec_items blocks.homes) none.each says.homes;
  encodes = read_encodes n most bs small none ∙ (λ i. encoding (sym says.firsts i) (sym says.lasts i) (sym says.homes i));
}

-- the same of what the readings say, of which each leaves the bytes as they were
pub accepted_read : (n most : ℕ) (bs a b d : List ℕ) (blocks : BlockList) → Bytes bs → a ≡ bs → b ≡ a → d ≡ b → first_fault (head_checks most a) ≡ None → CleanBlocks n b (count b) × Says b (count b) blocks → first_fault (end_checks d) ≡ None → Accepted n most bs blocks
accepted_read n most bs a b d blocks small e f g head read end =
    let same : b ≡ bs = f ∙ e in
    let read' = subst (λ x. CleanBlocks n x (count x) × Says x (count x) blocks) same read in
    accepted n most bs blocks small
    (record {
      head = (λ i. first_fault (head_checks most (sym e i))) ∙ head;
      each = read'.0;
      end = (λ i. first_fault (end_checks (sym (g ∙ same) i))) ∙ end;
    })
    read'.1
