-- What holds after the first k blocks of a file are read. Assumes nothing.
use Rattle.std.proofs.Common.{◌≡◌, ℕ, suc, ◌+◌, ◌*◌, ◌<◌, Bool, true, false, cond, not, ltb, List, [], ◌∷◌, ◌++◌, length, get_or, Some, None, Option, vec_items, refl, sym, ap, ◌∙◌, subst, ⊎_elim, add-one, arith}
use Rattle.std.proofs.lemmas.Bool.{cases_lt, lt-leb, not-false}
use Rattle.std.proofs.lemmas.Bool.Decides.{nat_tests}
use Rattle.wire.specs.Reading.{input, place}
use Rattle.wire.specs.Numbers.{word32}
use Rattle.wire.specs.declared.reader.Reader.{Reader}
use Rattle.model.specs.Checks.{first_fault}
use Rattle.blocks.specs.Fit.{Grown, Told, unfit}
use Rattle.blocks.specs.declared.block_list.Block.{Block}
use Rattle.blocks.specs.declared.block_list.BlockList.{BlockList}
use Rattle.blocks.specs.declared.block_list.Unfit.{Unfit}
use Rattle.blocks.specs.declared.block_list.Unfit.TheVariants.{NotRising as NotAbove, Turned as FirstAboveLast, TooMany as NoRoom, Overlap as Shares, Memory as NoMemory}
use Rattle.blocks.specs.declared.refusal.Cause.{Cause}
use Rattle.blocks.specs.declared.refusal.Cause.TheVariants.{Cut, NoSuchNetwork, NotRising, Turned, TooMany, Overlap}
use Rattle.blocks.specs.declared.block_list.methods.TheConstants.{MOST}
use Rattle.blocks.specs.File.{count, first, last, home}
use Rattle.blocks.specs.Faults.{rises, overlapped, block_checks, CleanBlocks}
use Rattle.blocks.specs.Steps.{bytes_checks}
use Rattle.blocks.specs.Outcome.{Says, AtBlock}
use Rattle.blocks.specs.Unfit.{refusal_at}
use Rattle.blocks.proofs.Listed.{length_each, each_none, each_more}
use Rattle.blocks.proofs.Overlaps.{not_above, shares}

pub record Sofar (n : ℕ) (bs : List ℕ) (k : ℕ) (r : Reader) (blocks : BlockList) : Type 0 where
  pub source : input r ≡ bs
  pub at : place r ≡ 3 + 9 * k
  pub says : Says bs k blocks
  pub clean : CleanBlocks n bs k

pub sofar_none : (n : ℕ) (bs : List ℕ) (r : Reader) (blocks : BlockList) → input r ≡ bs → place r ≡ 3 → vec_items blocks.firsts ≡ [] → vec_items blocks.lasts ≡ [] → vec_items blocks.homes ≡ [] → Sofar n bs 0 r blocks
sofar_none n bs r blocks e p f l h = record {
  source = e;
  at = p;
  says = record {
    firsts = f ∙ sym (each_none (first bs));
    lasts = l ∙ sym (each_none (last bs));
    homes = h ∙ sym (each_none (home bs));
  };
  clean = λ m g. absurd (omega arith);
}

-- the cause in the file of what is said against a block by the list
abbrev cause_of : Unfit → Cause
cause_of NotAbove = NotRising
cause_of FirstAboveLast = Turned
cause_of NoRoom = TooMany
cause_of Shares = Overlap
cause_of NoMemory = Cut

abbrev caused : Option Unfit → Option Cause
caused None = None
caused (Some e) = Some (cause_of e)

-- what is told by the list and by the bytes, by tests of both
abbrev by_list : Bool → Bool → Bool → Bool → Option Unfit
by_list low turned full over = cond low (Some NotAbove) (cond turned (Some FirstAboveLast) (cond full (Some NoRoom) (cond over (Some Shares) None)))

abbrev by_bytes : Bool → Bool → Bool → Bool → Bool → Option Cause
by_bytes cut no_network low turned over = cond cut (Some Cut) (cond no_network (Some NoSuchNetwork) (cond low (Some NotRising) (cond turned (Some Turned) (cond over (Some Overlap) None))))

same_told : (low turned over : Bool) → by_bytes false false low turned over ≡ caused (by_list low turned false over)
same_told true turned over = refl
same_told false true over = refl
same_told false false true = refl
same_told false false false = refl

list_tests : (low low' turned turned' full over over' : Bool) → low ≡ low' → turned ≡ turned' → full ≡ false → (low' ≡ false → over ≡ over') → by_list low turned full over ≡ by_list low' turned' false over'
list_tests low true turned turned' full over over' e t f o = λ i. by_list (e i) (t i) (f i) over
list_tests low false turned turned' full over over' e t f o = λ i. by_list (e i) (t i) (f i) (o refl i)

module _ {n : ℕ} {bs : List ℕ} {k : ℕ} {r : Reader} {blocks : BlockList} (s : Sofar n bs k r blocks) where
  -- what is told of the next block by its bytes alone is told of block k
  pub told_next : (c : Cause) → first_fault (bytes_checks n (input r) (place r)) ≡ Some c → first_fault (block_checks n bs k) ≡ Some c
  told_next c e =
      let at : first_fault (bytes_checks n bs (3 + 9 * k)) ≡ Some c = (λ i. first_fault (bytes_checks n (sym s.source i) (sym s.at i))) ∙ e in
      grind (arith, nat_tests)

  -- the block that is read, where its bytes alone have no fault
  module _ (block : Block) (few : k < MOST) (whole : first_fault (bytes_checks n (input r) (place r)) ≡ None) (f : block.first.0 ≡ word32 (input r) (place r)) (l : block.last.0 ≡ word32 (input r) (place r + 4)) where
    first_is : block.first.0 ≡ first bs k
    first_is = f ∙ (λ i. word32 (s.source i) (s.at i))

    last_is : block.last.0 ≡ last bs k
    last_is = l ∙ (λ i. word32 (s.source i) (s.at i + 4))

    told_list : unfit (vec_items blocks.firsts) (vec_items blocks.lasts) block ≡ by_list (not (rises bs k)) (ltb (last bs k) (first bs k)) false (overlapped bs (first bs k) (last bs k) k)
    told_list =
        let long : length (vec_items blocks.firsts) ≡ k = ap length s.says.firsts ∙ length_each (first bs) k in
        list_tests _ (not (rises bs k)) _ _ _ _ _
        (not_above n bs (vec_items blocks.firsts) (vec_items blocks.lasts) k block.first.0 s.says.firsts first_is)
        (λ i. ltb (last_is i) (first_is i))
        (lt-leb MOST _ (omega arith))
        (λ e. shares n bs (vec_items blocks.firsts) (vec_items blocks.lasts) k block.first.0 block.last.0 s.says.firsts s.says.lasts first_is last_is s.clean (not-false _ e))

    told_block : first_fault (block_checks n bs k) ≡ by_bytes false false (not (rises bs k)) (ltb (last bs k) (first bs k)) (overlapped bs (first bs k) (last bs k) k)
    told_block =
        let at : first_fault (bytes_checks n bs (3 + 9 * k)) ≡ None = (λ i. first_fault (bytes_checks n (sym s.source i) (sym s.at i))) ∙ whole in
        grind (arith, nat_tests)

    same : first_fault (block_checks n bs k) ≡ caused (unfit (vec_items blocks.firsts) (vec_items blocks.lasts) block)
    same = told_block ∙ same_told (not (rises bs k)) (ltb (last bs k) (first bs k)) (overlapped bs (first bs k) (last bs k) k) ∙ ap caused (sym told_list)

    told_at : (e : Unfit) → unfit (vec_items blocks.firsts) (vec_items blocks.lasts) block ≡ Some e → k < count bs → AtBlock n bs (refusal_at k e)
    told_at NotAbove is h = (s.clean, h, same ∙ ap caused is)
    told_at FirstAboveLast is h = (s.clean, h, same ∙ ap caused is)
    told_at NoRoom is h = (s.clean, h, same ∙ ap caused is)
    told_at Shares is h = (s.clean, h, same ∙ ap caused is)
    told_at NoMemory is h = tt

    refused_by : (o : Option Unfit) → unfit (vec_items blocks.firsts) (vec_items blocks.lasts) block ≡ o → (e : Unfit) → Told o e → k < count bs → AtBlock n bs (refusal_at k e)
    refused_by None is e why h = subst (λ x. AtBlock n bs (refusal_at k x)) (sym why) tt
    refused_by (Some cause) is e why h = subst (λ x. AtBlock n bs (refusal_at k x)) (sym why) (told_at cause is h)

    pub refused : (e : Unfit) → Told (unfit (vec_items blocks.firsts) (vec_items blocks.lasts) block) e → k < count bs → AtBlock n bs (refusal_at k e)
    refused e why h = refused_by (unfit (vec_items blocks.firsts) (vec_items blocks.lasts) block) refl e why h

    pub sofar_more : (r' : Reader) (blocks' : BlockList) → block.home ≡ get_or (input r) (place r + 8) 0 → input r' ≡ input r → place r' ≡ place r + 9 → unfit (vec_items blocks.firsts) (vec_items blocks.lasts) block ≡ None → Grown blocks blocks' block → Sofar n bs (k + 1) r' blocks'
    sofar_more r' blocks' home_in e p none grown =
        let clean_here : first_fault (block_checks n bs k) ≡ None = same ∙ ap caused none in
        let home_is : block.home ≡ home bs k = home_in ∙ (λ i. get_or (s.source i) (s.at i + 8) 0) in
        let step : Sofar n bs (suc k) r' blocks' = record {
          source = e ∙ s.source;
          at = omega (arith, s.at);
          says = record {
            firsts = grown.firsts ∙ (λ i. s.says.firsts i ++ first_is i ∷ []) ∙ sym (each_more (first bs) k);
            lasts = grown.lasts ∙ (λ i. s.says.lasts i ++ last_is i ∷ []) ∙ sym (each_more (last bs) k);
            homes = grown.homes ∙ (λ i. s.says.homes i ++ home_is i ∷ []) ∙ sym (each_more (home bs) k);
          };
          clean = λ m h. ⊎_elim (λ below. s.clean m below) (λ above. let at : m ≡ k = omega arith in subst (λ z. first_fault (block_checks n bs z) ≡ None) (sym at) clean_here) (cases_lt m k);
        } in
        subst (λ z. Sofar n bs z r' blocks') (sym (add-one k)) step
