-- Each shows what it goes by after the looks so far, and those that nothing has changed for what it goes by after one more.
use Rattle.stable.specs.Looking.{Shows}
use Rattle.stable.specs.Networks.{OfOne, UpToDateIn, links_in, showing, world_in}
use Rattle.stable.proofs.looking.Networks.look_until_same.Given as goal

abbrev pub invariant-loop-look : goal.invariant-loop-look
invariant-loop-look l =
    Shows (world_in l.self) (links_in l.self) l.self.block l._look (showing l.shown) ×
    OfOne l.shown × OfOne l.next × UpToDateIn l.self l.due l.shown
