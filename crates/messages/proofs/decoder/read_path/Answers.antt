-- Each turn of the loop reads one network more.
use Rattle.std.proofs.Common.{◌≡◌, ◌+◌, ◌<◌, get_or, drop, length, arith, ap, ◌∙◌, sym, length-drop}
use Rattle.std.proofs.lemmas.List.{get_or-drop}
use Rattle.wire.specs.Reading.{input, place}
use Rattle.messages.proofs.Paths.{read_more}
use Rattle.messages.proofs.decoder.read_path.Goals as goal

pub loop-k-preserved : goal.loop-k-preserved
loop-k-preserved c =
    let bs = input c.args.reader.now in
    let p = place c.args.reader.now in
    let k = c.loop-k.k in
    let so = c.loop-k.invariant in
    let read = c.in_ok-path.ensures.cases in
    let room : p + k < length bs = omega (arith, read.0, so.at, ap length so.source) in
    let is : c.in_ok-path.field-0 ≡ get_or bs (p + k) 0 = read.1 ∙ (λ i. get_or (so.source i) (so.at i) 0) in
    record {
      source = c.byte.ensures.source ∙ so.source;
      at = omega (arith, read.2, so.at);
      there = omega (arith, room);
      says = read_more (drop p bs) c.loop-k.path k c.in_ok-path.field-0 so.says (omega (arith, room, length-drop p bs)) (omega (arith, c.loop-k-test.true, c.requires.few)) (is ∙ sym (get_or-drop p bs k 0));
    }
