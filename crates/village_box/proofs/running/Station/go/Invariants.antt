-- What was known of the end is known still.
use Rattle.std.proofs.Common.{◌≡◌, vec_items}
use Rattle.village_box.specs.Inboxes.{Sound, left}
use Rattle.village_box.specs.Taking.{Stays, outcome}
use Rattle.village_box.proofs.running.Station.go.Given as goal

abbrev pub invariant-loop : goal.invariant-loop
invariant-loop g l = record {
  sound : Sound l.self.inbox;
  goes_on : l.self.goes_on ≡ l.initial.self.goes_on;
  stays : Stays (outcome l.initial.self.goes_on (g.W.Write.contents l.initial.output) l.initial.self.village (vec_items l.initial.self.out) (left l.initial.self.inbox) (g.R.Read.remaining l.initial.input)) (outcome l.initial.self.goes_on (g.W.Write.contents l.output) l.self.village (vec_items l.self.out) (left l.self.inbox) (g.R.Read.remaining l.input));
}
