-- No packet ends where a link turns.
use Rattle.std.proofs.Common.{refl}
use Rattle.std.proofs.lemmas.Result.{MatchResult-weaker}
use Rattle.report.proofs.playing.play.Goals as goal

pub returns-in-Turn-clause-played : goal.returns-in-Turn-clause-played
returns-in-Turn-clause-played c = rw c.in-Turn.is (MatchResult-weaker c.turn.result c.turn.ensures.played (λ _ turned. (turned, refl)) (λ refusal not. (not.0, not.1, refl)))
