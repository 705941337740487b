use Rattle.std.proofs.Common.{◌∙◌, sym, arith}
use Rattle.section_compose.proofs.Cuts.{section_goes_on}
use Rattle.section_compose.proofs.cut.sections_of.Goals as goal

pub lines-preserved : goal.lines-preserved
lines-preserved c =
    let text = c.args.text.now in
    let low = c.line_end-end.ensures.further in
    record {
      few = c.lines.invariant.few;
      after = omega arith;
      within = c.line_end-end.ensures.within;
      lie = c.lines.invariant.lie;
      cut =
          sym (section_goes_on text c.lines.pieces c.lines.from c.lines.at c.line_end-end.result c.lines.invariant.after (omega arith)
          c.line_end-end.ensures.is (sym c.is_separator.ensures ∙ c.if-is_separator.false))
          ∙ c.lines.invariant.cut;
    }
