use Rattle.std.proofs.Common.{ap, subst, sym, ◌∙◌}
use Rattle.drawing_tree.specs.Tree.{Drawing, drawing_of}
use Rattle.macro_expander.specs.Stands.{IsStopOf}
use Rattle.timing_analysis.specs.Drawn.{DrawsBy, undrawn, unexpanded}
use Rattle.trace_tool.proofs.drawn.read_named.Goals as goal

pub returns-in-Err-clause-refused : goal.returns-in-Err-clause-refused
returns-in-Err-clause-refused c r e = undrawn (c.in-Err.ensures.refused r e)

pub returns-in-Err-expanded-clause-refused : goal.returns-in-Err-expanded-clause-refused
returns-in-Err-expanded-clause-refused c r e =
    let d = drawing_of c.in-Ok.drawing in
    unexpanded d c.in-Ok.ensures.drawn (subst (IsStopOf d) e c.in-Err-expanded.ensures)

pub returns-in-Err-circuit_of-clause-refused : goal.returns-in-Err-circuit_of-clause-refused
returns-in-Err-circuit_of-clause-refused c r e =
    c.in-Err-circuit_of.ensures.refused c.args.text.now r c.in-Ok.ensures.drawn e

pub returns-in-Ok-copied-clause-drawn : goal.returns-in-Ok-copied-clause-drawn
returns-in-Ok-copied-clause-drawn c =
    let drawn = c.in-Ok-circuit_of.drawn in
    let by : DrawsBy c.args.text.now (drawing_of c.in-Ok.drawing) drawn.circuit drawn.cases =
    c.in-Ok-circuit_of.ensures.drawn c.args.text.now c.in-Ok.ensures.drawn in
    record {
      draws = by.draws;
      is = ap (λ (d : Drawing). d.name) by.drawing ∙ sym (c.in-Ok-copied.ensures.copied ∙ c.as_slice.ensures);
    }
