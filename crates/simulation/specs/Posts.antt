-- What is in flight as one list, in the order of sending. Assumes nothing.
use Rattle.std.specs.Prelude.{◌≡◌, ℕ, Bool, true, cond, ◌&&◌, ◌||◌, List, [], ◌∷◌, ◌++◌, map, ◌==◌, nat_lt}
use Rattle.advertisement.specs.Updates.{news}
use Rattle.model.specs.Local.{Update}
use Rattle.model.specs.Selection.{Said}
use Rattle.model.specs.Lists.{gather}
use Rattle.model.specs.Packets.{Forwarded, arrived, dropped, handed}
use Rattle.model.specs.Run.{Item, update, packet}
use Rattle.forwarding.specs.Forwarding.{packet_of}
use Rattle.simulation.specs.declared.letter.Item as letter
use Rattle.simulation.specs.declared.letter.Item.TheVariants as sent
use Rattle.simulation.specs.declared.letter.Letter.{Letter}

-- what one network sent to another
pub record Post : Type 0 where
  pub from : ℕ
  pub to : ℕ
  pub what : Item

abbrev pub item_of : letter.Item → Item
item_of (sent.Update u) = update (news u)
item_of (sent.Packet p) = packet (packet_of p)

abbrev pub meant : Letter → Post
meant l = record { from = l.from; to = l.to; what = item_of l.item }

abbrev pub posts : List Letter → List Post
posts = map meant

-- sent by i to j
abbrev pub goes : ℕ → ℕ → Post → Bool
goes i j p = p.from == i && p.to == j

-- what i sent to j
abbrev pub between : ℕ → ℕ → List Post → List Item
between i j [] = []
between i j (p ∷ ps) = cond (goes i j p) (p.what ∷ between i j ps) (between i j ps)

-- what is in flight from i to j
abbrev pub flying : List Post → ℕ → ℕ → List Item
flying ps i j = between i j ps

-- without what is in flight over the link of i and j, either way
abbrev pub cut : ℕ → ℕ → List Post → List Post
cut i j [] = []
cut i j (p ∷ ps) = cond (goes i j p || goes j i p) (cut i j ps) (p ∷ cut i j ps)

-- every sender and every hearer is below n
abbrev pub inside : ℕ → List Post → Bool
inside n [] = true
inside n (p ∷ ps) = (nat_lt p.from n && nat_lt p.to n) && inside n ps

-- what network i sends of a block to network k, if it is to be told
abbrev pub addressed : ℕ → ℕ → (ℕ → Bool) → (ℕ → Said) → ℕ → List Post
addressed i block is_told says k =
    cond (is_told k) (record { from = i; to = k; what = update (record { block = block; says = says k }) } ∷ []) []

-- what it sends of a block to those of n networks that are to be told, in the order of their numbers
abbrev pub mailing : ℕ → ℕ → (ℕ → Bool) → (ℕ → Said) → ℕ → List Post
mailing i block is_told says n = gather (addressed i block is_told says) n

-- what network i sends, each to its hearer
abbrev pub mail : ℕ → List (ℕ × Update) → List Post
mail i = map (λ x. record { from = i; to = x.0; what = update x.1 })

-- what is sent stands behind what was in flight before
abbrev pub Appends : List Letter → List Letter → List Post → Type 0
Appends before after sent = posts after ≡ posts before ++ sent

-- a packet that network i hands on goes to one neighbour
abbrev pub passed_on : ℕ → Forwarded → List Post
passed_on i arrived = []
passed_on i (dropped why) = []
passed_on i (handed j p) = record { from = i; to = j; what = packet p } ∷ []
