-- What a box writes to each neighbour is what the model sends. Assumes nothing.
use Rattle.std.proofs.Common.{◌≡◌, ℕ, ◌<◌, ◌≤◌, Bool, true, false, cond, not, ◌&&◌, eqb, ltb, List, [], ◌∷◌, map, Some, None, Option, sym, refl, ap, ◌∙◌, ⊎_elim, append-nil, arith}
use Rattle.std.specs.List.{flat_map}
use Rattle.std.proofs.lemmas.Bool.{cases_eq, cases_lt, eq-eqb, le-ltb, ne_eqb}
use Rattle.std.proofs.lemmas.List.Concat.{flat_map_single}
use Rattle.std.proofs.lemmas.List.Folds.{flat_map-map}
use Rattle.model.specs.Export.{same_saying}
use Rattle.model.specs.Hearing.{unless}
use Rattle.model.specs.Local.{Local, Update, outbox, sends, sent, tells_now}
use Rattle.model.specs.Lists.{gather}
use Rattle.model.specs.Packets.{Packet, Forwarded, arrived, dropped, handed}
use Rattle.model.specs.Run.{update, packet, onward, updates}
use Rattle.model.specs.World.{World}
use Rattle.model.specs.declared.fault.Fault.{Fault}
use Rattle.messages.specs.Encoding.{thing_bytes}
use Rattle.messages.specs.Meaning.{Message}
use Rattle.messages.specs.Meaning as meaning
use Rattle.model.proofs.Gathered.{gather_none, gather_one, gather_same}
use Rattle.speaker.proofs.Told.{flat_cond, flat_gather}
use Rattle.speaker.specs.Rule.{packet_messages, people, update_messages}
use Rattle.carriage.specs.Laws.{item_bytes}
use Rattle.carriage.specs.Wires.{delivered}

shut : {X : Type 0} (s : Bool) → cond {A = List X} s [] [] ≡ []
shut true = refl
shut false = refl

-- a message to a network is put into its queue, if it is no number of people
there : (k : ℕ) (m : Message) → m.network ≡ k → (k ≡ people → ⊥) → delivered k m ≡ thing_bytes m.thing ∷ []
there k m e ne = (λ x. cond (not (ne_eqb k people ne x) && eq-eqb m.network k e x) (thing_bytes m.thing ∷ []) [])

elsewhere : (k : ℕ) (m : Message) → (m.network ≡ k → ⊥) → delivered k m ≡ []
elsewhere k m ne = ap (λ b. cond (not (eqb k people) && b) (thing_bytes m.thing ∷ []) []) (ne_eqb m.network k ne) ∙ closed (not (eqb k people))
  where
    closed : (b : Bool) → cond (b && false) (thing_bytes m.thing ∷ []) [] ≡ []
    closed true = refl
    closed false = refl

-- the message that tells an update to a neighbour
abbrev telling : ℕ × Update → Message
telling x = record { network = x.0; thing = meaning.update x.1 }

module _ (w : World) (few : w.n ≤ 64) (i : ℕ) (these : ℕ → Bool) (s : Local) where
  abbrev said : ℕ → ℕ → Update
  said b k = record { block = b; says = tells_now w i s b k }

  abbrev due_to : ℕ → ℕ → List (List ℕ)
  due_to b k = cond (sends w i these s b k) (thing_bytes (meaning.update (said b k)) ∷ []) []

  abbrev one : ℕ → ℕ → ℕ → List (List ℕ)
  one c b k = cond (sends w i these s b k) (delivered c (telling (k, said b k))) []

  past : (b c : ℕ) → w.n ≤ c → due_to b c ≡ []
  past b c l = let e = le-ltb c w.n l in ap (λ t. cond ((these b && ltb b w.blocks && t && s.up c) && not (same_saying (tells_now w i s b c) (s.advertised b c))) (thing_bytes (meaning.update (said b c)) ∷ []) []) e ∙ blank (these b) (ltb b w.blocks)
    where
      blank : (p q : Bool) → cond ((p && q && false && s.up c) && not (same_saying (tells_now w i s b c) (s.advertised b c))) (thing_bytes (meaning.update (said b c)) ∷ []) [] ≡ []
      blank true true = refl
      blank true false = refl
      blank false q = refl

  -- of block b, one neighbour hears what is told it
  one_hearer : (c b : ℕ) → gather (one c b) w.n ≡ due_to b c
  one_hearer c b =
      ⊎_elim
      (λ l. gather_one _ c w.n l (λ k ne. others k ne) ∙ ap (λ t. cond (sends w i these s b c) t []) (there c (telling (c, said b c)) refl (λ e. omega arith)))
      (λ l. gather_none _ w.n (λ k h. others k (λ e. omega arith)) ∙ sym (past b c l))
      (cases_lt c w.n)
    where
      others : (k : ℕ) → (k ≡ c → ⊥) → one c b k ≡ []
      others k ne = ap (λ t. cond (sends w i these s b k) t []) (elsewhere c (telling (k, said b k)) ne) ∙ shut (sends w i these s b k)

  sent_bytes : (c : ℕ) → map item_bytes (updates (sent w i these s c)) ≡ gather (λ b. due_to b c) w.blocks
  sent_bytes c =
      sym (flat_map_single item_bytes (updates (sent w i these s c))) ∙
      flat_map-map (λ x. item_bytes x ∷ []) update (sent w i these s c) ∙
      flat_gather (λ u. thing_bytes (meaning.update u) ∷ []) _ w.blocks ∙
      gather_same _ _ w.blocks (λ b l. flat_cond (λ u. thing_bytes (meaning.update u) ∷ []) (sends w i these s b c) (said b c))

  pub outbox_sorted : (c : ℕ) → flat_map (delivered c) (update_messages (outbox w i these s)) ≡ map item_bytes (updates (sent w i these s c))
  outbox_sorted c =
      flat_map-map (delivered c) telling (outbox w i these s) ∙
      flat_gather (λ x. delivered c (telling x)) _ w.blocks ∙
      gather_same _ _ w.blocks (λ b l. flat_gather (λ x. delivered c (telling x)) _ w.n ∙ gather_same _ _ w.n (λ k h. flat_cond (λ x. delivered c (telling x)) (sends w i these s b k) (k, said b k)) ∙ one_hearer c b) ∙
      sym (sent_bytes c)

  pub unless_sorted : (f : Option Fault) (c : ℕ) → flat_map (delivered c) (update_messages (unless f [] (outbox w i these s))) ≡ map item_bytes (updates (unless f [] (sent w i these s c)))
  unless_sorted (Some fault) c = refl
  unless_sorted None c = outbox_sorted c

-- a packet goes on to one neighbour, or to the people and is gone
pub packets_sorted : (p : Packet) (became : Forwarded) → ((j : ℕ) (q : Packet) → became ≡ handed j q → j < 64) → (c : ℕ) → flat_map (delivered c) (packet_messages p became) ≡ map item_bytes (onward became c)
packets_sorted p arrived h c =
    append-nil _ ∙ ⊎_elim (λ e. (λ x. cond (not (eq-eqb c people e x) && eqb people c) (thing_bytes (meaning.packet p) ∷ []) [])) (λ ne. elsewhere c (record { network = people; thing = meaning.packet p }) (λ e. ne (sym e))) (cases_eq c people)
packets_sorted p (dropped why) h c = refl
packets_sorted p (handed j q) h c =
    append-nil _ ∙
    ⊎_elim
    (λ e. there c (record { network = j; thing = meaning.packet q }) (sym e) (let l : j < 64 = h j q refl in λ f. omega arith) ∙ sym (ap (λ b. map item_bytes (cond b (packet q ∷ []) [])) (eq-eqb c j e)))
    (λ ne. elsewhere c (record { network = j; thing = meaning.packet q }) (λ e. ne (sym e)) ∙ sym (ap (λ b. map item_bytes (cond b (packet q ∷ []) [])) (ne_eqb c j ne)))
    (cases_eq c j)
