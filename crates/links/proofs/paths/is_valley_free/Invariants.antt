use Rattle.std.proofs.Common.{◌≡◌, drop}
use Rattle.model.specs.Paths.{descends, valley_free}
use Rattle.relations.specs.Sound.{relation}
use Rattle.links.proofs.paths.is_valley_free.Given as goal

abbrev pub invariant-loop-network : goal.invariant-loop-network
invariant-loop-network l = descends (relation l.relations) l.climbing l.at (drop l.network-index l.path) ≡ valley_free (relation l.relations) l.me l.path
