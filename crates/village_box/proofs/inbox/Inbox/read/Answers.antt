-- What was read stands behind what was left.
use Rattle.std.proofs.Common.{◌≡◌, ◌+◌, ◌-◌, drop, take, vec_items, ap, sym, subst, ◌∙◌}
use Rattle.std.specs.Vec.{with_items}
use Rattle.std.proofs.lemmas.List.{with_items_is}
use Rattle.village_box.specs.Inboxes.{Gained, left}
use Rattle.village_box.proofs.Buffers.{read_in}
use Rattle.village_box.proofs.inbox.Inbox.read.Goals as goal

pub returns-clause-gained : goal.returns-clause-gained
returns-clause-gained g c =
    let was = c.shift.new.self in
    let n = c.in_ok-count.count in
    let whole : vec_items (with_items was.bytes c.read_behind.new.buffer) ≡ c.read_behind.new.buffer = with_items_is was.bytes c.read_behind.new.buffer (c.in_ok-count.ensures.len ∙ c.deref_mut.ensures.len) in
    subst (λ l. Gained l (g.R.Read.remaining c.args.input.now) (take ((was.end + n) - was.start) (drop was.start (vec_items (with_items was.bytes c.read_behind.new.buffer)))) (g.R.Read.remaining c.read_behind.new.input)) c.shift.ensures.left
    (subst (λ ys. Gained (left was) (g.R.Read.remaining c.args.input.now) (take ((was.end + n) - was.start) (drop was.start ys)) (g.R.Read.remaining c.read_behind.new.input)) (sym whole)
    (read_in was.start was.end n (vec_items was.bytes) c.read_behind.new.buffer (g.R.Read.remaining c.args.input.now) (g.R.Read.remaining c.read_behind.new.input) c.shift.ensures.front (c.in_ok-count.ensures.front ∙ ap (take was.end) c.deref_mut.ensures.value) c.in_ok-count.ensures.bytes.1))
