-- The last level meets none; each before it leads a level on.
use Rattle.cycles.proofs.Walks.{known_next, walked_last}
use Rattle.cycles.proofs.walk.Slope.+climb.Goals as goal

pub returns-then-rise : goal.returns-then-rise
returns-then-rise t c = λ start known. c.climb.ensures start (known_next _ _ _ _ _ _ _ c.requires.some known c.rise.ensures)

pub returns-else-rise : goal.returns-else-rise
returns-else-rise t c = λ start known. walked_last _ _ _ _ _ _ _ c.requires.some known c.rise.ensures (c.rise.ensures.same c.if-rise.false)
