use Rattle.std.proofs.Common.{◌≡◌, length}
use Rattle.relations.specs.Sound.{networks}
use Rattle.script.specs.Next.{left_of, line_of}
use Rattle.script.specs.Turns.{turn_entries}
use Rattle.stable.specs.Linked.{up}
use Rattle.lines.specs.After.{links_after, links_said}
use Rattle.lines.proofs.reading.read_links.Given as goal

abbrev pub invariant-loop : goal.invariant-loop
invariant-loop l = links_said l.relations l.bytes ≡ links_after l.relations (up l.links) (turn_entries (networks l.relations) (line_of l.script) (left_of l.script))

abbrev pub decreases-loop : goal.decreases-loop
decreases-loop l = length (left_of l.script)
