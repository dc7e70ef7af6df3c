-- Selecting and advertising for one block is telling it anew.
use Rattle.std.proofs.Common.{◌≡◌, cond, not, ◌&&◌, eqb, ltb, refl, ap, ◌∙◌}
use Rattle.relations.specs.Sound.{networks, relation}
use Rattle.model.specs.Export.{same_saying, tells}
use Rattle.model.specs.Local.{choice}
use Rattle.model.specs.Selection.{by_keys, choose}
use Rattle.selection.specs.Meaning.{meaning}
use Rattle.selection.specs.Nodes.{link_up, networks_around, relation_to}
use Rattle.selection.specs.Paths.{row}
use Rattle.selection.specs.Worlds.{is_home_of}
use Rattle.links.specs.Held.{held, number_of, world_for}
use Rattle.links.proofs.Exporting.{retold_is, sends_is}
use Rattle.links.proofs.router.Router.export.Goals as goal

pub returns : goal.returns
returns c =
    let t = c.args.tables.now in
    let me = number_of c.args.self in
    let block = c.args.block in
    let w = world_for c.args.world t in
    let s = held c.args.self t in
    let around = c.node-node.ensures in
    let n : networks_around c.node-node.result ≡ w.n = ap (λ x. networks x.relations.now) around.world in
    let rel : relation_to c.node-node.result ≡ w.rel me = λ i. relation (around.world i).relations.now (around.me i) in
    let up : link_up c.node-node.result ≡ s.up = λ i k. around.up k i in
    let said = meaning c.select-route.result in
    let chosen : said ≡ choice w me s block = c.select-route.ensures ∙ (λ i. choose (by_keys (rel i)) (rel i) (up i) (around.me i) (is_home_of (around.world i) block (around.me i)) (row t.received block) (n i)) in
    record {
      blocks = refl;
      audiences = refl;
      received = refl;
      held = retold_is w me block s said chosen (row c.advertise.new.advertised) (λ b k. c.advertise.ensures.rows b k ∙ (λ i. cond (eqb b block && ltb b (t.said i) && ltb k (n i) && up i k) (tells (rel i) (up i) (around.me i) k said) (row t.advertised b k)));
      whom = λ k. sends_is w me block s said chosen k _ (c.advertise.ensures.whom k ∙ (λ i. ltb block (t.said i) && ltb k (n i) && up i k && not (same_saying (tells (rel i) (up i) (around.me i) k said) (row t.advertised block k))));
    }
