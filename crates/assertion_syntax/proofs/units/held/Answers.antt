use Rattle.std.proofs.Common.{◌+◌, ◌<◌, ltb, length, ◌∙◌, arith}
use Rattle.std.proofs.lemmas.List.{length-set}
use Rattle.assertion_syntax.proofs.Covered.{IsLatest, latest_more, held_at, held_more}
use Rattle.assertion_syntax.proofs.units.held.Goals as goal

pub units-preserved : goal.units-preserved
units-preserved c =
    let unit = c.units.unit in
    let ends = c.ends_of-ends.result in
    let spans = c.args.spans.now in
    let now = c.max-latest.result in
    let latest : IsLatest ends (unit + 1) now = rw c.max-latest.ensures (latest_more ends unit c.units.latest c.units.invariant.latest) in
    let inside : unit < length c.units.held = omega (arith, c.units.invariant.size, c.units-test.true, c.requires.few) in
    record {
      size = length-set c.units.held unit (ltb unit now) ∙ c.units.invariant.size;
      latest = latest;
      are = held_more c.units.held spans unit (ltb unit now) inside c.units.invariant.are (held_at c.args.units ends spans unit now c.ends_of-ends.ensures.are c.units-test.true latest);
    }
