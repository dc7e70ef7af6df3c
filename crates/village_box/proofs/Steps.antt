-- With each step what is known of the end stays. Assumes nothing.
use Rattle.std.proofs.Common.{◌≡◌, ℕ, Bool, true, false, List, [], ◌++◌, drop, None, Some, Option, Ok, Err, sym, refl, subst, ap, ◌∙◌, append-nil}
use Rattle.std.specs.Io.KnownBytes.{Appends, IsAtEnd}
use Rattle.messages.specs.declared.cause.Cause.{Cause}
use Rattle.messages.proofs.Streams.{read_on}
use Rattle.speaker.specs.declared.fault.Fault.{Fault}
use Rattle.speaker.specs.declared.refusal.Refusal.TheVariants.{Fault as Faulty}
use Rattle.village_box.specs.Due.{due_of, held_by, lookup_of, number_in, refusals, stopping, world_of, written}
use Rattle.village_box.specs.Inboxes.{Gained}
use Rattle.village_box.specs.Taking.{Follows, Over, Served, Stays, Took, outcome}
use Rattle.village_box.specs.declared.village.Village.{Village}

pub stays_on : {A : Type 0} (x y z : Option A) → Stays x y → Stays y z → Stays x z
stays_on None y z s t = tt
stays_on (Some x) None z s t = cc
stays_on (Some x) (Some y) z s t = t ∙ s

-- a thing is taken, or passed over, or is not there whole
pub taken_follows : (g : Bool) (v now : Village) (told after was is : List ℕ) (n : ℕ) → Took v told now after was (Ok n) → is ≡ drop n was → Follows g v told was now after is
taken_follows true v now told after was is n t e = λ first more. (λ j. due_of now true (first ++ after) (e j ++ more)) ∙ t.0.1 first more
taken_follows false v now told after was is n t e = λ first more. (λ j. due_of now false (first ++ after) (e j ++ more)) ∙ t.1.1 first more

pub refused_follows : (g : Bool) (v now : Village) (told after was is : List ℕ) (f : Fault) (l : Option ℕ) (n : ℕ) → Took v told now after was (Err (Faulty f l)) → l ≡ Some n → g ≡ true → is ≡ drop n was → Follows g v told was now after is
refused_follows g v now told after was is f None n t e go i = cc
refused_follows false v now told after was is f (Some k) n t e go i = cc
refused_follows true v now told after was is f (Some k) n t e go i =
    let same : k ≡ n = cc in
    λ first more. (λ j. due_of now true (first ++ after) ((i ∙ ap (λ x. drop x was) (sym same)) j ++ more)) ∙ t.1 first more

pub cut_follows : (g : Bool) (v now : Village) (told after was : List ℕ) (f : Fault) → Took v told now after was (Err (Faulty f None)) → Follows g v told was now after was
cut_follows true v now told after was f t = t.0.1
cut_follows false v now told after was f t = t.1.1

pub follows_stays : (g : Bool) (c r : Option (List ℕ)) (v now : Village) (told after was is : List ℕ) → Follows g v told was now after is → Stays (outcome g c v told was r) (outcome g c now after is r)
follows_stays g None r v now told after was is p = tt
follows_stays g (Some c) None v now told after was is p = tt
follows_stays g (Some c) (Some xs) v now told after was is p = ap Some (p c xs)

-- what is told is written
flushed_stays : (g : Bool) (c d r : Option (List ℕ)) (v : Village) (told bs : List ℕ) → Appends c d told → Stays (outcome g c v told bs r) (outcome g d v [] bs r)
flushed_stays g None d r v told bs a = tt
flushed_stays g (Some c) d None v told bs a = tt
flushed_stays g (Some c) None (Some xs) v told bs a = absurd a
flushed_stays g (Some c) (Some d) (Some xs) v told bs a = ap Some (λ j. due_of v g ((append-nil d ∙ a) j) (bs ++ xs))

-- more is read
read_stays : (g : Bool) (c r s : Option (List ℕ)) (v : Village) (told was is : List ℕ) → Gained was r is s → Stays (outcome g c v told was r) (outcome g c v told is s)
read_stays g None r s v told was is e = tt
read_stays g (Some c) None s v told was is e = tt
read_stays g (Some c) (Some xs) None v told was is e = absurd e
read_stays g (Some c) (Some xs) (Some ys) v told was is e = ap Some (λ j. due_of v g (c ++ told) (e j))

-- then what is told is written, and more is read
pub more_stays : (g : Bool) (c d r s : Option (List ℕ)) (v now : Village) (told after last was at is : List ℕ) → Follows g v told was now after at → Appends c d after → last ≡ [] → Gained at r is s → Stays (outcome g c v told was r) (outcome g d now last is s)
more_stays g c d r s v now told after last was at is p a le e =
    subst (λ l. Stays (outcome g c v told was r) (outcome g d now l is s)) (sym le)
    (stays_on (outcome g c v told was r) (outcome g c now after at r) (outcome g d now [] is s) (follows_stays g c r v now told after was at p)
    (stays_on (outcome g c now after at r) (outcome g d now [] at r) (outcome g d now [] is s) (flushed_stays g c d r now after at a)
    (read_stays g d r s now [] at is e)))

-- or what is told is written alone
pub flush_stays : (g : Bool) (c d r : Option (List ℕ)) (v now : Village) (told after last was is : List ℕ) → Follows g v told was now after is → Appends c d after → last ≡ [] → Stays (outcome g c v told was r) (outcome g d now last is r)
flush_stays g c d r v now told after last was is p a le =
    subst (λ l. Stays (outcome g c v told was r) (outcome g d now l is r)) (sym le)
    (stays_on (outcome g c v told was r) (outcome g c now after is r) (outcome g d now [] is r) (follows_stays g c r v now told after was is p)
    (flushed_stays g c d r now after is a))

-- at the end of the input nothing is to come
none_stops : (g : Bool) → stopping g [] ≡ []
none_stops true = refl
none_stops false = refl

due_none : (v : Village) (g : Bool) (d : List ℕ) → due_of v g (d ++ []) [] ≡ (d, [], None)
unfolding written refusals
due_none v g d =
    (λ j. ((d ++ []) ++ written (world_of v) (lookup_of v) (number_in v) (held_by v) (read_on.none j).messages, stopping g (refusals (world_of v) (lookup_of v) (number_in v) (held_by v) (read_on.none j).messages), (read_on.none j).fault)) ∙
    (λ j. ((append-nil (d ++ []) ∙ append-nil d) j, none_stops g j, None))

pub over : (x : Option (List ℕ × List Fault × Option Cause)) (g : Bool) (d s : Option (List ℕ)) (v : Village) (told bs : List ℕ) → Stays x (outcome g d v told bs s) → told ≡ [] → bs ≡ [] → IsAtEnd s → Over x d
over None g d s v told bs h te be e = tt
over (Some x) g None s v told bs h te be e = cc
over (Some x) g (Some d) None v told bs h te be e = cc
over (Some x) g (Some d) (Some ys) v told bs h te be e =
    let all : due_of v g (d ++ told) (bs ++ ys) ≡ x = cc in
    let last : x ≡ (d, [], None) = sym all ∙ (λ j. due_of v g (d ++ te j) (be j ++ e j)) ∙ due_none v g d in
    ((λ j. Some ((sym last j).0)), (λ j. (last j).1), (λ j. (last j).2))

-- and all was served
pub served : (g : Bool) (v : Village) (c r d : Option (List ℕ)) (told bs : List ℕ) → Over (outcome g c v told bs r) d → told ≡ [] → bs ≡ [] → Served g v c r d
served g v None r d told bs o te be = tt
served g v (Some c) None d told bs o te be = tt
served g v (Some c) (Some xs) d told bs o te be =
    let at_first : due_of v g (c ++ told) (bs ++ xs) ≡ due_of v g c xs = (λ j. due_of v g (c ++ te j) (be j ++ xs)) ∙ (λ j. due_of v g (append-nil c j) xs) in
    (o.0 ∙ (λ j. Some ((at_first j).0)), sym (λ j. (at_first j).1) ∙ o.1, sym (λ j. (at_first j).2) ∙ o.2)
