use Rattle.std.proofs.Common.{◌∙◌, get_or, refl, arith}
use Rattle.section_compose.proofs.Cuts.{line_ends, line_goes_on}
use Rattle.section_compose.proofs.cut.line_end.Goals as goal

pub returns-then-byte-eq10-clause-is : goal.returns-then-byte-eq10-clause-is
returns-then-byte-eq10-clause-is c =
    let text = c.args.text.now in
    c.bytes.invariant.read
    ∙ line_ends text c.args.from c.bytes.at (get_or text c.bytes.at 0) c.bytes.invariant.after c.bytes-test.true refl c.if-byte-eq10.true

pub bytes-preserved : goal.bytes-preserved
bytes-preserved c =
    let text = c.args.text.now in
    record {
      after = omega arith;
      within = omega arith;
      read =
          c.bytes.invariant.read
          ∙ line_goes_on text c.args.from c.bytes.at (get_or text c.bytes.at 0) c.bytes.invariant.after c.bytes-test.true refl c.if-byte-eq10.false;
    }
