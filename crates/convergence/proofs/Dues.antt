-- What is due when a network tells anew. Assumes nothing.
use Rattle.std.proofs.Common.{◌≡◌, ℕ, ◌<◌, Bool, true, ◌&&◌, ltb}
use Rattle.std.proofs.lemmas.Bool.{and_parts, ltb-true}
use Rattle.model.specs.World.{World}
use Rattle.model.specs.Local.{Local, due}

-- a block of these, and a neighbour below n over a link that is up
pub record Due (w : World) (these : ℕ → Bool) (l : Local) (b k : ℕ) : Type 0 where
  pub one : these b ≡ true
  pub block : b < w.blocks
  pub there : k < w.n
  pub up : l.up k ≡ true

pub due_is : (w : World) (these : ℕ → Bool) (l : Local) (b k : ℕ) → due w these l b k ≡ true → Due w these l b k
due_is w these l b k e =
    let a = and_parts (these b && ltb b w.blocks && ltb k w.n) (l.up k) e in
    let c = and_parts (these b && ltb b w.blocks) (ltb k w.n) a.0 in
    let d = and_parts (these b) (ltb b w.blocks) c.0 in
    record { one = d.0; block = ltb-true b w.blocks d.1; there = ltb-true k w.n c.1; up = a.1 }
