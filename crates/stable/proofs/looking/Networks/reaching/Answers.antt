-- The homes are in the set, and none is left to add.
use Rattle.selection.specs.Sets.{member}
use Rattle.stable.specs.Networks.{count_in, is_home_in, links_in}
use Rattle.stable.proofs.Growth.{from_homes, homes_in, reached}
use Rattle.stable.proofs.looking.Networks.reaching.Goals as goal

pub returns : goal.returns
returns c =
    let n = count_in c.args.self in
    let links = links_in c.args.self in
    let is_home = is_home_in c.args.self in
    let homes = member c.homes-reached.result in
    reached n links is_home _ (c.spread_all.ensures.real (from_homes n links is_home homes c.homes-reached.ensures)) c.spread_all.ensures.closed
    (λ home hh e. c.spread_all.ensures.kept home (homes_in n links is_home homes c.homes-reached.ensures home hh e))
