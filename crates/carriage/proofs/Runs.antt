-- A run of bytes is a run of the model. Assumes nothing.
use Rattle.std.proofs.Common.{◌≡◌, ℕ, ◌<◌, ◌^◌, ◌≢◌, Bool, true, false, cond, eqb, List, [], ◌∷◌, ◌++◌, length, map, sym, refl, ap, ◌∙◌, subst, arith}
use Rattle.std.specs.List.{AllByRecursion}
use Rattle.std.proofs.ByRecursion.{All-append}
use Rattle.std.proofs.lemmas.Bool.{cond_both, ltb-true}
use Rattle.std.proofs.lemmas.List.{map-append}
use Rattle.model.specs.Relations.{related}
use Rattle.model.specs.Run.{fresh, Item, update, packet, State, Reach, onward, updates}
use Rattle.model.specs.Hearing.{after_hearing, after_turning, sent_on_hearing, sent_on_turning}
use Rattle.model.specs.Local.{Local, Update, at}
use Rattle.model.specs.Packets.{Packet, Forwarded, arrived, dropped, handed, forwarded, Lookup}
use Rattle.links.specs.declared.tables.Tables.{Tables}
use Rattle.links.specs.Held.{blocks_of, world_for}
use Rattle.forwarding.specs.Forwarding.{lookup}
use Rattle.model.specs.Promise.{ProperItem, ProperSaying}
use Rattle.model.specs.Steps.{appended, queued, start, move, change, send, ends}
use Rattle.model.specs.Steps as Steps
use Rattle.model.proofs.Chosen.{strict}
use Rattle.relations.specs.Sound.{relation}
use Rattle.selection.specs.declared.world.World.{World as Lent}
use Rattle.model.specs.Run as model
use Rattle.model.specs.World.{World, Sound}
use Rattle.convergence.proofs.Keeping.{Kept, flies_up, tied_back}
use Rattle.convergence.proofs.Places.{appended_cases, at_other, at_same, queued_cases}
use Rattle.convergence.proofs.Promised.{promised}
use Rattle.convergence.proofs.Steps.{run_kept}
use Rattle.delivery.proofs.Hops.{hops_fall}
use Rattle.messages.specs.Laws.{Addressed, Written}
use Rattle.messages.specs.Reading.{message_at}
use Rattle.speaker.specs.Bytes.{on_bytes}
use Rattle.carriage.specs.Boxes.{BoxesKeepThePromise}
use Rattle.carriage.specs.Laws.{BytesKeepThePromise, Keeps, Takes, item_bytes, message_from, read_from, thing_of}
use Rattle.carriage.specs.Wires.{Ends, Move, Wires, Run, answers, posted, taken, turned, sending, turning}
use Rattle.carriage.proofs.Steps.{Made, clear_sender, packet_made, sending_made, turning_made, update_made}
use Rattle.carriage.proofs.Writing.{item_reads, written_item}

abbrev Flight : Type 0
Flight = ℕ → ℕ → List (List ℕ)

abbrev Flights : Type 0
Flights = ℕ → ℕ → List Item

-- the bytes of what is in flight
abbrev Bytes : Flight → Flights → Type 0
Bytes bytes items = (a k : ℕ) → bytes a k ≡ map item_bytes (items a k)

-- addresses of 32 bits
abbrev Short : Item → Type 0
Short x = Addressed (thing_of x)

abbrev AllShort : Flights → Type 0
AllShort items = (a k : ℕ) → AllByRecursion Short (items a k)

-- queues
behind_bytes : (j : ℕ) (bs : ℕ → List (List ℕ)) (xs : ℕ → List Item) (bytes : Flight) (items : Flights) → ((k : ℕ) → bs k ≡ map item_bytes (xs k)) → Bytes bytes items → Bytes (appended j bs bytes) (appended j xs items)
behind_bytes j bs xs bytes items more h a k = by (eqb a j)
  where
    by : (t : Bool) → cond t (bytes a k ++ bs k) (bytes a k) ≡ map item_bytes (cond t (items a k ++ xs k) (items a k))
    by true = (λ z. h a k z ++ more k z) ∙ sym (map-append item_bytes (items a k) (xs k))
    by false = h a k

queued_bytes : (i j : ℕ) (bs : List (List ℕ)) (xs : List Item) (bytes : Flight) (items : Flights) → bs ≡ map item_bytes xs → Bytes bytes items → Bytes (queued i j bs bytes) (queued i j xs items)
queued_bytes i j bs xs bytes items e h a k = by (eqb a i)
  where
    inner : (r : Bool) → cond r bs (bytes i k) ≡ map item_bytes (cond r xs (items i k))
    inner true = e
    inner false = h i k

    by : (t : Bool) → cond t (at j bs (bytes i)) (bytes a) k ≡ map item_bytes (cond t (at j xs (items i)) (items a) k)
    by true = inner (eqb k j)
    by false = h a k

-- what each network holds
at_alike : (j : ℕ) (l m : Local) (f g : ℕ → Local) → l ≡ m → ((a : ℕ) → f a ≡ g a) → (a : ℕ) → at j l f a ≡ at j m g a
at_alike j l m f g e h a = (λ z. cond (eqb a j) (e z) (h a z))

-- addresses stay
short_updates : (us : List Update) → AllByRecursion Short (updates us)
short_updates [] = tt
short_updates (u ∷ us) = (tt, short_updates us)

short_behind : (j : ℕ) (more : ℕ → List Item) (items : Flights) → AllShort items → ((k : ℕ) → AllByRecursion Short (more k)) → AllShort (appended j more items)
short_behind j more items h m a k = appended_cases (AllByRecursion Short) j more items a k (λ _. All-append Short (items a k) (more k) (h a k) (m k)) (λ _. h a k)

short_queued : (i j : ℕ) (xs : List Item) (items : Flights) → AllShort items → AllByRecursion Short xs → AllShort (queued i j xs items)
short_queued i j xs items h m a k = queued_cases (AllByRecursion Short) i j xs items a k (λ _ _. m) (λ _. h a k)

short_onward : (w : World) (find : Lookup) (i : ℕ) (l : Local) (p : Packet) → p.address < 2 ^ 32 → (o : Forwarded) → forwarded w find i l p ≡ o → (k : ℕ) → AllByRecursion Short (onward o k)
short_onward w find i l p short arrived e k = tt
short_onward w find i l p short (dropped why) e k = tt
short_onward w find i l p short (handed j q) e k = cond_both (eqb k j) (packet q ∷ []) [] (AllByRecursion Short) (λ _. (subst (λ a. a < 2 ^ 32) (sym (hops_fall w find i l p j q e).address) short, tt)) (λ _. tt)

-- where bytes are the oldest of a queue, so is an item
record Front (t : State) (i j : ℕ) (bs : List ℕ) (rest : List (List ℕ)) : Type 0 where
  first : Item
  others : List Item
  flies : t.flight i j ≡ first ∷ others
  here : bs ≡ item_bytes first
  more : rest ≡ map item_bytes others

first_of : List (List ℕ) → List ℕ
first_of [] = []
first_of (bs ∷ rest) = bs

others_of : List (List ℕ) → List (List ℕ)
others_of [] = []
others_of (bs ∷ rest) = rest

front : (t : State) (i j : ℕ) (bs : List ℕ) (rest : List (List ℕ)) (xs : List Item) → t.flight i j ≡ xs → bs ∷ rest ≡ map item_bytes xs → Front t i j bs rest
unfolding first_of others_of
front t i j bs rest [] flies e = absurd (let z = ap length e in omega arith)
front t i j bs rest (x ∷ xs) flies e = record { first = x; others = xs; flies = flies; here = ap first_of e; more = ap others_of e }

-- a state of bytes and one of the model that it says
pub record Mirrors (w : World) (find : Lookup) (s : Wires) (t : State) : Type 0 where
  pub locals : (i : ℕ) → s.locals i ≡ t.locals i
  pub bytes : Bytes s.flight t.flight
  pub short : AllShort t.flight
  pub reached : Reach w find t

module _ (w : World) (find : Lookup) (sound : Sound w) where
  abbrev Mirrored : Wires → Type 0
  Mirrored s = (t : State) × Mirrors w find s t

  -- what is advertised at a moment of a run is proper
  proper_now : (t : State) → Reach w find t → (j : ℕ) (l : Local) → t.locals j ≡ l → (b k : ℕ) → ProperSaying w k j b (l.advertised b k)
  proper_now t run j l e b k = subst (λ m. ProperSaying w k j b (m.advertised b k)) e ((promised w find sound t run).proper.advertised j k b)

  module _ (s : Wires) (t : State) (m : Mirrors w find s t) where
    has_bytes : (i j : ℕ) → AllByRecursion (λ x. Written (message_from i x)) (t.flight i j)
    has_bytes i j = by (t.flight i j) ((promised w find sound t m.reached).proper.flying i j) (m.short i j)
      where
        by : (xs : List Item) → AllByRecursion (ProperItem w j i) xs → AllByRecursion Short xs → AllByRecursion (λ x. Written (message_from i x)) xs
        by [] p a = tt
        by (x ∷ xs) p a = (written_item w i j x p.0 a.0, by xs p.1 a.1)

    -- the oldest of a queue
    module _ (i j : ℕ) (x : Item) (xs : List Item) (flies : t.flight i j ≡ x ∷ xs) where
      kept : Kept w t
      kept = run_kept w find sound m.reached

      up : (t.locals i).up j ≡ true
      up = flies_up w t kept i j x xs flies

      pub below : (i < w.n) × (j < w.n)
      below = let tied = kept.tied i j up in (tied.here, tied.there)

      has : Written (message_from i x)
      has = (subst (AllByRecursion (λ y. Written (message_from i y))) flies (has_bytes i j)).0

      short : AllByRecursion Short (x ∷ xs)
      short = subst (AllByRecursion Short) flies (m.short i j)

      abbrev after : State
      after = model.taken w find i j x xs t

      reaches : Reach w find after
      reaches = move m.reached (Steps.hears t i j x xs below.0 below.1 flies)

    -- what the hearer then holds and sends
    abbrev after_item : (i j : ℕ) → Item → Local
    after_item i j (update u) = after_hearing w j i u (t.locals j)
    after_item i j (packet p) = t.locals j

    abbrev more_item : (i j : ℕ) → Item → ℕ → List Item
    more_item i j (update u) k = updates (sent_on_hearing w j i u (t.locals j) k)
    more_item i j (packet p) k = onward (forwarded w find j (t.locals j) p) k

    oldest_made : (i j : ℕ) (x : Item) (xs : List Item) (flies : t.flight i j ≡ x ∷ xs) → Made (t.locals j) (i ∷ item_bytes x) (on_bytes w find j (t.locals j) (i ∷ item_bytes x)) (after_item i j x) (more_item i j x)
    oldest_made i j (update u) xs flies =
        update_made w sound.few find i j u (t.locals j) (has i j (update u) xs flies) ((promised w find sound t m.reached).heard.unrefused i j u xs flies) (proper_now (after i j (update u) xs flies) (reaches i j (update u) xs flies) j (after_hearing w j i u (t.locals j)) (at_same j _ t.locals))
    oldest_made i j (packet p) xs flies =
        let link = sym ((kept i j (packet p) xs flies).both i j) ∙ up i j (packet p) xs flies in
        packet_made w sound.few find i j p (t.locals j) (i ∷ item_bytes (packet p)) (item_reads i (packet p) (has i j (packet p) xs flies)) (short i j (packet p) xs flies).0 (clear_sender w j (t.locals j) i (below i j (packet p) xs flies).0 ((kept i j (packet p) xs flies).tied j i link).related link)

    -- the oldest bytes of a queue, and what the box of their hearer makes of them
    module _ (i j : ℕ) (bs : List ℕ) (rest : List (List ℕ)) (flying : s.flight i j ≡ bs ∷ rest) where
      oldest : Front t i j bs rest
      oldest = front t i j bs rest (t.flight i j) refl (sym flying ∙ m.bytes i j)

      made : Made (s.locals j) (i ∷ bs) (answers w find s j (i ∷ bs)) (after_item i j oldest.first) (more_item i j oldest.first)
      made = subst {A = Local × List ℕ} (λ z. Made z.0 (i ∷ z.1) (on_bytes w find j z.0 (i ∷ z.1)) (after_item i j oldest.first) (more_item i j oldest.first)) (λ y. (sym (m.locals j) y, sym oldest.here y)) (oldest_made i j oldest.first oldest.others oldest.flies)

      mirrors_by : (x : Item) (xs : List Item) → t.flight i j ≡ x ∷ xs → rest ≡ map item_bytes xs → Made (s.locals j) (i ∷ bs) (answers w find s j (i ∷ bs)) (after_item i j x) (more_item i j x) → Mirrors w find (taken w find i j bs rest s) (model.taken w find i j x xs t)
      mirrors_by (update u) xs flies e did = record {
        locals = at_alike j _ _ s.locals t.locals did.holds m.locals;
        bytes = behind_bytes j _ (more_item i j (update u)) _ _ did.sends (queued_bytes i j rest xs s.flight t.flight e m.bytes);
        short = short_behind j (more_item i j (update u)) _ (short_queued i j xs t.flight m.short (short i j (update u) xs flies).1) (λ k. short_updates _);
        reached = reaches i j (update u) xs flies;
      }
      mirrors_by (packet p) xs flies e did = record {
        locals = at_alike j _ _ s.locals t.locals did.holds m.locals;
        bytes = behind_bytes j _ (more_item i j (packet p)) _ _ did.sends (queued_bytes i j rest xs s.flight t.flight e m.bytes);
        short = short_behind j (more_item i j (packet p)) _ (short_queued i j xs t.flight m.short (short i j (packet p) xs flies).1) (short_onward w find j (t.locals j) p (short i j (packet p) xs flies).0 (forwarded w find j (t.locals j) p) refl);
        reached = reaches i j (packet p) xs flies;
      }

      abbrev heard : State
      heard = model.taken w find i j oldest.first oldest.others t

      heard_moves : model.Move w find t heard
      heard_moves = let within = below i j oldest.first oldest.others oldest.flies in Steps.hears t i j oldest.first oldest.others within.0 within.1 oldest.flies

      heard_mirrors : Mirrors w find (taken w find i j bs rest s) heard
      heard_mirrors = mirrors_by oldest.first oldest.others oldest.flies oldest.more made

      heard_takes : Takes (i ∷ bs) (answers w find s j (i ∷ bs))
      heard_takes = made.takes

    -- a link turns
    module _ (i j : ℕ) (up : Bool) (hi : i < w.n) (hj : j < w.n) (ne : i ≢ j) (tied : related (w.rel i j) ≡ true) where
      abbrev turned_there : State
      turned_there = model.turned w find i j up t

      reaches_turned : Reach w find turned_there
      reaches_turned = change m.reached (Steps.turns t i j up hi hj ne tied)

      tied_other : related (w.rel j i) ≡ true
      tied_other = (tied_back w sound i j (record { here = hi; there = hj; apart = ne; related = tied })).related

      one : Made (t.locals i) (turning j up) (on_bytes w find i (t.locals i) (turning j up)) (after_turning w i j up (t.locals i)) (λ k. updates (sent_on_turning w i j up (t.locals i) k))
      one = turning_made w sound.few find i j up (t.locals i) hj tied (proper_now turned_there reaches_turned i (after_turning w i j up (t.locals i)) (at_same i _ (at j (after_turning w j i up (t.locals j)) t.locals)))

      other : Made (t.locals j) (turning i up) (on_bytes w find j (t.locals j) (turning i up)) (after_turning w j i up (t.locals j)) (λ k. updates (sent_on_turning w j i up (t.locals j) k))
      other = turning_made w sound.few find j i up (t.locals j) hi tied_other (proper_now turned_there reaches_turned j (after_turning w j i up (t.locals j)) (at_other i _ (at j (after_turning w j i up (t.locals j)) t.locals) j (λ e. ne (sym e)) ∙ at_same j _ t.locals))

      one_here : Made (s.locals i) (turning j up) (answers w find s i (turning j up)) (after_turning w i j up (t.locals i)) (λ k. updates (sent_on_turning w i j up (t.locals i) k))
      one_here = subst (λ l. Made l (turning j up) (on_bytes w find i l (turning j up)) (after_turning w i j up (t.locals i)) (λ k. updates (sent_on_turning w i j up (t.locals i) k))) (sym (m.locals i)) one

      other_here : Made (s.locals j) (turning i up) (answers w find s j (turning i up)) (after_turning w j i up (t.locals j)) (λ k. updates (sent_on_turning w j i up (t.locals j) k))
      other_here = subst (λ l. Made l (turning i up) (on_bytes w find j l (turning i up)) (after_turning w j i up (t.locals j)) (λ k. updates (sent_on_turning w j i up (t.locals j) k))) (sym (m.locals j)) other

      turned_mirrors : Mirrors w find (turned w find i j up s) turned_there
      turned_mirrors = record {
        locals = at_alike i _ _ _ _ one_here.holds (at_alike j _ _ s.locals t.locals other_here.holds m.locals);
        bytes = behind_bytes j _ _ _ _ other_here.sends (behind_bytes i _ _ _ _ one_here.sends (queued_bytes i j [] [] _ _ refl (queued_bytes j i [] [] s.flight t.flight refl m.bytes)));
        short = short_behind j _ _ (short_behind i _ _ (short_queued i j [] _ (short_queued j i [] t.flight m.short tt) tt) (λ k. short_updates _)) (λ k. short_updates _);
        reached = reaches_turned;
      }

    -- people send a packet
    module _ (i address : ℕ) (hi : i < w.n) (bits : address < 2 ^ 32) where
      people : Made (s.locals i) (sending i address) (answers w find s i (sending i address)) (t.locals i) (onward (forwarded w find i (t.locals i) (fresh address)))
      people = subst (λ l. Made l (sending i address) (on_bytes w find i l (sending i address)) (t.locals i) (onward (forwarded w find i (t.locals i) (fresh address)))) (sym (m.locals i)) (sending_made w sound.few find i address (t.locals i) bits)

      posted_mirrors : Mirrors w find (posted w find i address s) (model.posted w find i address t)
      posted_mirrors = record {
        locals = at_alike i _ _ s.locals t.locals people.holds m.locals;
        bytes = behind_bytes i _ (onward (forwarded w find i (t.locals i) (fresh address))) _ _ people.sends m.bytes;
        short = short_behind i (onward (forwarded w find i (t.locals i) (fresh address))) t.flight m.short (short_onward w find i (t.locals i) (fresh address) bits (forwarded w find i (t.locals i) (fresh address)) refl);
        reached = send m.reached (Steps.sends t i address hi refl);
      }

    all_read : (i : ℕ) (xs : List Item) → AllByRecursion (λ x. Written (message_from i x)) xs → map (λ bs. message_at (i ∷ bs)) (map item_bytes xs) ≡ map (read_from i) xs
    all_read i [] h = refl
    all_read i (x ∷ xs) h = λ z. item_reads i x h.0 z ∷ all_read i xs h.1 z

    heard_move : (i j : ℕ) (bs : List ℕ) (rest : List (List ℕ)) → s.flight i j ≡ bs ∷ rest → Move w find s (taken w find i j bs rest s)
    heard_move i j bs rest flying =
        let old = oldest i j bs rest flying in
        let within = below i j old.first old.others old.flies in
        Steps.hears s i j bs rest within.0 within.1 flying

    keeps : Ends w find s → Keeps w find s t
    keeps end = record {
      says = record {
        locals = m.locals;
        bytes = m.bytes;
        reads = λ i j. ap (map (λ bs. message_at (i ∷ bs))) (m.bytes i j) ∙ all_read i (t.flight i j) (has_bytes i j);
      };
      reached = m.reached;
      promise = promised w find sound t m.reached;
      ends = end;
      progress = heard_move;
      heard = heard_takes;
      turned = λ i j up hi hj ne tied. (one_here i j up hi hj ne tied).takes;
      sent = λ i address hi bits. (people i address hi bits).takes;
    }

  -- a hearing of bytes is one of the model
  wires_end : {t : State} → model.Ends w find t → (s : Wires) → Mirrors w find s t → Ends w find s
  wires_end (ends t further) s m = ends s (λ r move. by r move (λ u then. wires_end (further u then)))
    where
      by : (r : Wires) → Move w find s r → ((u : State) → model.Move w find t u → (v : Wires) → Mirrors w find v u → Ends w find v) → Ends w find r
      by _ (Steps.hears _ i j bs rest hi hj flying) further_on = further_on (heard s t m i j bs rest flying) (heard_moves s t m i j bs rest flying) (taken w find i j bs rest s) (heard_mirrors s t m i j bs rest flying)

mirrored : (find : Lookup) (w : World) (sound : Sound w) (s : Wires) → Run w find s → Mirrored w find sound s
mirrored find w sound s (start x) = (model.begin, record { locals = λ i. refl; bytes = λ a k. refl; short = λ a k. tt; reached = start w })
mirrored find w sound s (move {s = r} run (Steps.hears _ i j bs rest hi hj flying)) = let t = mirrored find w sound r run in (heard w find sound r t.0 t.1 i j bs rest flying, heard_mirrors w find sound r t.0 t.1 i j bs rest flying)
mirrored find w sound s (change {s = r} run (Steps.turns _ i j up hi hj ne tied)) = let t = mirrored find w sound r run in (model.turned w find i j up t.0, turned_mirrors w find sound r t.0 t.1 i j up hi hj ne tied)
mirrored find w sound s (send {s = r} run (Steps.sends _ i address hi bits)) = let t = mirrored find w sound r run in (model.posted w find i address t.0, posted_mirrors w find sound r t.0 t.1 i address hi (ltb-true address (2 ^ 32) bits))

pub bytes_keep : BytesKeepThePromise
bytes_keep w find sound s run = let t = mirrored find w sound s run in (t.0, keeps w find sound s t.0 t.1 (wires_end w find sound (promised w find sound t.0 t.1.reached).ends s t.1))

-- relations are sound ties
sound_ties : (world : Lent) (t : Tables) → Sound (world_for world t)
sound_ties world t = record {
  few = world.relations.now.matrix.few;
  both = λ i j l m. world.relations.now.matrix.mutual i j;
  acyclic = λ ring below cycle. world.relations.now.acyclic ring cycle;
  ranked = λ i l. (strict (relation world.relations.now i)).1;
  strict = λ i l. (strict (relation world.relations.now i)).0;
}

pub boxes_keep : BoxesKeepThePromise
boxes_keep world t blocks = bytes_keep (world_for world t) (lookup (blocks_of t) blocks) (sound_ties world t)
