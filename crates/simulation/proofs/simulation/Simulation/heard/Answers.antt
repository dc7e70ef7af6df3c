-- The oldest is taken out, and the network at its place steps.
use Rattle.std.proofs.Common.{rules, ℕ, subst, vec_items}
use Rattle.simulation.specs.Posting.{Oldest}
use Rattle.simulation.proofs.Posted.{oldest_between, oldest_ends, oldest_front}
use Rattle.simulation.specs.Simulated.{MakesHeard}
use Rattle.simulation.proofs.Wholes.{heard_some}
use Rattle.simulation.proofs.simulation.Simulation.heard.Goals as goal

pub prepared-requires : goal.prepared-requires
prepared-requires c = oldest_between c.args.from c.args.to c.in_ok-place.place (vec_items c.args.self.now.letters) (search rules)

pub returns : goal.returns
returns c =
    let x = c.args.self.now in
    let i = c.args.from in
    let j = c.args.to in
    let old : Oldest i j c.in_ok-place.place (vec_items x.letters) = search rules in
    let e = oldest_ends i j c.in_ok-place.place (vec_items x.letters) old in
    let done = c.in_ok-prepared.field-0 in (
      c.in_ok-both_exist.ensures,
      heard_some i j c.in_ok-place.place _ (vec_items x.letters) (oldest_front i j c.in_ok-place.place (vec_items x.letters) old),
      subst {A = ℕ × ℕ} (λ p. MakesHeard x p.0 p.1 done) (λ z. (e.0 z, e.1 z)) c.in_ok-prepared.ensures,
    )
