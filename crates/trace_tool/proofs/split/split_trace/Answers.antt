use Rattle.std.proofs.Common.{ap, false, refl, sym, true, ◌∙◌}
use Rattle.std.specs.Str.{bytes_eq}
use Rattle.trace_tool.specs.Trace.{end_line}
use Rattle.trace_tool.proofs.Cutting.{found_trace, none_found, one_passed, same_or_not, shorter}
use Rattle.trace_tool.proofs.split.split_trace.Goals as goal

pub returns-then-eq : goal.returns-then-eq
returns-then-eq c =
    found_trace c.args.text.now c.lines.rest.now c.in-Some.line.now c.in-Some.after.now _ c.lines.invariant c.in-Some.ensures
    (same_or_not true c.in-Some.line.now end_line
    (sym c.if-eq.true ∙ c.eq.ensures ∙ ap (bytes_eq c.in-Some.line.now) c.as_slice.ensures)) refl

pub lines-preserved : goal.lines-preserved
lines-preserved c =
    one_passed c.args.text.now c.lines.rest.now c.in-Some.line.now c.in-Some.after.now c.lines.invariant c.in-Some.ensures
    (same_or_not false c.in-Some.line.now end_line
    (sym c.if-eq.false ∙ c.eq.ensures ∙ ap (bytes_eq c.in-Some.line.now) c.as_slice.ensures))

pub lines-smaller : goal.lines-smaller
lines-smaller c = shorter c.lines.rest.now c.in-Some.line.now c.in-Some.after.now c.in-Some.ensures

pub returns : goal.returns
returns c = none_found c.args.text.now c.lines.rest.now c.lines.invariant c.in_default.ensures
