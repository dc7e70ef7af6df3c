-- The neighbours below k are told, and no other.
use Rattle.std.proofs.Common.{◌≡◌, ℕ, cond, not, ◌&&◌, eqb, ltb}
use Rattle.selection.specs.Meaning.{meaning}
use Rattle.selection.specs.Nodes.{link_up, relation_to}
use Rattle.selection.specs.Paths.{count, row}
use Rattle.selection.specs.Sets.{member}
use Rattle.model.specs.Export.{same_saying, tells}
use Rattle.advertisement.proofs.telling.advertise.Given as goal

abbrev pub invariant-loop-k : goal.invariant-loop-k
invariant-loop-k l =
    ((b j : ℕ) → row l.advertised b j ≡ cond (eqb b l.block && ltb b (count l.initial.advertised) && ltb j l.k && link_up l.node j) (tells (relation_to l.node) (link_up l.node) l.node.me j (meaning l.route)) (row l.initial.advertised b j)) ×
    ((j : ℕ) → member l.audience j ≡ (ltb l.block (count l.initial.advertised) && ltb j l.k && link_up l.node j && not (same_saying (tells (relation_to l.node) (link_up l.node) l.node.me j (meaning l.route)) (row l.initial.advertised l.block j)))) ×
    (count l.advertised ≡ count l.initial.advertised)
