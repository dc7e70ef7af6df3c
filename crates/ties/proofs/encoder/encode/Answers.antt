-- The head and then the ties are the encoding, and two bytes hold the number of ties.
use Rattle.std.proofs.Common.{[], ◌≡◌, ◌/◌, ◌%◌, ◌-◌, ◌∷◌, ◌++◌, drop, length, vec_items, ap, ◌∙◌, arith}
use Rattle.std.specs.List.{flat_map}
use Rattle.relations.specs.Sound.{networks, relation}
use Rattle.ties.specs.declared.encoder.TheConstants.{TIES}
use Rattle.ties.specs.Encoding.{bytes_of, listing}
use Rattle.ties.proofs.Written.{length_bytes, listing_short}
use Rattle.ties.proofs.encoder.encode.Goals as goal

pub overflow_cast-ties : goal.overflow_cast-ties
overflow_cast-ties c =
    let r = c.args.relations.now in
    let list = listing (networks r) (relation r) in
    let body : vec_items c.push_ties.new.out ≡ TIES ∷ c.networks.result ∷ 0 / 256 ∷ 0 % 256 ∷ flat_map bytes_of list = c.in_ok-push_ties.ensures ∙ ap (λ l. l ++ flat_map bytes_of list) (c.in_ok-extend_from_slice.ensures.items ∙ (λ k. c.new-out.ensures.items k ++ c.head.ensures k)) in
    let long = c.len.ensures ∙ c.push_ties.new.out.ok.0 ∙ ap length body in
    let bytes = length_bytes list in
    let short = listing_short (networks r) (relation r) r.matrix.few in
    omega arith

pub returns : goal.returns
returns c =
    let r = c.args.relations.now in
    let list = listing (networks r) (relation r) in
    let body : vec_items c.push_ties.new.out ≡ TIES ∷ c.networks.result ∷ 0 / 256 ∷ 0 % 256 ∷ flat_map bytes_of list = c.in_ok-push_ties.ensures ∙ ap (λ l. l ++ flat_map bytes_of list) (c.in_ok-extend_from_slice.ensures.items ∙ (λ k. c.new-out.ensures.items k ++ c.head.ensures k)) in
    let long = c.len.ensures ∙ c.push_ties.new.out.ok.0 ∙ ap length body in
    let bytes = length_bytes list in
    let count : (c.len.result - 4) / 3 ≡ length list = omega arith in
    c.put_head.ensures ∙
    (λ i. (c.head-2.ensures ∙ (λ k. TIES ∷ c.networks-2.ensures k ∷ count k / 256 ∷ count k % 256 ∷ [])) i ++ drop 4 (body i))
