-- How many bytes a message has, and a way. Assumes nothing.
use Rattle.std.proofs.Common.{◌≡◌, ℕ, ◌+◌, ◌≤◌, ◌/◌, ◌%◌, Bool, true, false, cond, List, [], ◌∷◌, length, replicate, Some, None, sym, refl, ap, subst, ◌∙◌, arith, length-append}
use Rattle.std.proofs.lemmas.Bool.Decides.{nat_tests}
use Rattle.std.proofs.lemmas.List.{length-replicate, length-take-le}
use Rattle.advertisement.specs.declared.update.Announcement.{Announcement}
use Rattle.advertisement.specs.Updates.{news, padded}
use Rattle.advertisement.specs.declared.update.Update.TheVariants.{Announce}
use Rattle.model.specs.Selection.{Said}
use Rattle.messages.specs.Meaning.{Message, Thing, update, packet, turn}
use Rattle.messages.specs.Places.{fits, most_bytes}
use Rattle.messages.specs.Encoding.{bytes_of}

sized : (b : Bool) (xs : List ℕ) → length (cond b xs []) ≡ cond b (length xs) 0
sized true xs = refl
sized false xs = refl

pub way_bytes : (network : ℕ) (a : Announcement) → length (bytes_of (record { network = network; thing = update (news (Announce a)) })) ≡ cond (fits a.length) (5 + a.length) 0
way_bytes network a =
    let k = a.length in
    let path = padded a.networks k in
    let size : length path ≡ k = length-take-le k _ (omega (arith, length-append a.networks (replicate k 0), length-replicate {A = ℕ} k 0)) in
    let all : (h l : ℕ) → length (network ∷ 1 ∷ h ∷ l ∷ length path ∷ path) ≡ 5 + k = λ (h : ℕ) (l : ℕ). omega arith in
    sized (fits (length path)) _ ∙
    (λ i. cond (fits (size i)) (all (a.block / 256) (a.block % 256) i) 0)

few : (size : ℕ) → cond (fits size) (5 + size) 0 ≤ most_bytes
few size = grind (arith, nat_tests)

update_most : (network block : ℕ) (says : Said) → length (bytes_of (record { network = network; thing = update (record { block = block; says = says }) })) ≤ most_bytes
update_most network block None = omega arith
update_most network block (Some path) =
    let k = length path.networks in
    let all : length (network ∷ 1 ∷ block / 256 ∷ block % 256 ∷ k ∷ path.networks) ≡ 5 + k = omega arith in
    let size = sized (fits k) (network ∷ 1 ∷ block / 256 ∷ block % 256 ∷ k ∷ path.networks) ∙ ap (λ n. cond (fits k) n 0) all in
    subst (λ n. n ≤ most_bytes) (sym size) (few k)

-- no message has more
most_by : (network : ℕ) (t : Thing) → length (bytes_of (record { network = network; thing = t })) ≤ most_bytes
most_by network (update u) = update_most network u.block u.says
most_by network (packet p) = omega arith
most_by network (turn other up) = omega arith

pub bytes_most : (m : Message) → length (bytes_of m) ≤ most_bytes
bytes_most m = most_by m.network m.thing
