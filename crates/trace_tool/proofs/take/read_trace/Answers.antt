use Rattle.std.proofs.Common.{◌≡◌, ◌+◌, ◌∙◌, ℕ, ap, arith, length, subst, sym}
use Rattle.std.specs.Prelude.{slice_get}
use Rattle.std.proofs.lemmas.Option.{slice_get-get_or}
use Rattle.flat_circuit.proofs.Counts.{length_few}
use Rattle.flat_circuit.proofs.Numbered.{order_long}
use Rattle.trace_tool.specs.declared.trace.Trace.{Trace}
use Rattle.trace_tool.specs.declared.line.Line.TheVariants.{End}
use Rattle.trace_tool.specs.Trace.{line_order}
use Rattle.trace_tool.specs.Reading.{IsWrongLine}
use Rattle.trace_tool.specs.Scan.{lines_of}
use Rattle.trace_tool.specs.Taking.{AreLong}
use Rattle.trace_tool.proofs.Lines.{line_count_is}
use Rattle.trace_tool.proofs.Cutting.{first_cut}
use Rattle.trace_tool.proofs.Distinct.{line_is_of, place_of}
use Rattle.trace_tool.proofs.Fronts.{AreRight, is_read, is_too_long, is_wrong, none_left, not_missing, one_right, rest_cut}
use Rattle.trace_tool.proofs.take.read_trace.Goals as goal
use Rattle.trace_tool.proofs.take.read_trace.Goals.{in-None, in-Some+in-Some-next_line+in_ok-take_line-in-Some-next_line+else-not-branch}

pub returns-in-None-next_line : goal.returns-in-None-next_line
returns-in-None-next_line c =
    let count = c.line_count-place-end.ensures in
    absurd (not_missing c.args.extent c.args.c.now c.loop-place.trace (lines_of c.args.lines.now) c.loop-place.place c.requires
    (none_left (lines_of c.args.lines.now) c.loop-place.place (c.loop-place.invariant.cut ∙ c.in-None-next_line.ensures))
    (omega (arith, count, c.loop-place-test.true)) c.loop-place.invariant.right)

pub take_line-requires-clause-of_circuit : goal.take_line-requires-clause-of_circuit
take_line-requires-clause-of_circuit c =
    line_is_of c.args.c.now c.known.ensures c.loop-place.place c.in-Some.of
    (place_of c.args.c.now c.loop-place.place c.in-Some.of (sym c.in-Some.ensures))

pub returns-then-not-branch : goal.returns-then-not-branch
returns-then-not-branch c =
    let lines = lines_of c.args.lines.now in
    let line = c.in-Some-next_line.line.now in
    let after = c.in-Some-next_line.after.now in
    let cut =
    rest_cut lines (lines_of after) c.loop-place.place line
    (c.loop-place.invariant.cut ∙ first_cut c.loop-place.rest.now line after c.in-Some-next_line.ensures) in
    is_wrong c.args.extent c.args.c.now c.loop-place.trace lines c.loop-place.place c.in-Some.of line (sym c.in-Some.ensures) cut.first
    (rw c.if-not-branch.true at c.in_ok-take_line-in-Some-next_line.ensures) c.loop-place.invariant.right

pub loop-place-preserved : goal.loop-place-preserved
loop-place-preserved c =
    let circuit = c.args.c.now in
    let lines = lines_of c.args.lines.now in
    elim c.match-line_at.branch [
      | in-None w ↦
          absurd (let count = c.line_count-place-end.ensures in
          let has = slice_get-get_or (line_order circuit) c.loop-place.place End (omega (arith, count, c.loop-place-test.true)) in
          let clash = w.in-None.ensures ∙ has in cc)
      | in-Some+in-Some-next_line+in_ok-take_line-in-Some-next_line+else-not-branch w ↦
          let line = w.in-Some-next_line.line.now in
          let after = w.in-Some-next_line.after.now in
          let cut =
          rest_cut lines (lines_of after) c.loop-place.place line
          (c.loop-place.invariant.cut ∙ first_cut c.loop-place.rest.now line after w.in-Some-next_line.ensures) in
          let taken = rw w.if-not-branch.false at w.in_ok-take_line-in-Some-next_line.ensures in
          record {
            long = subst (AreLong circuit) (sym w.trace-is) taken.long;
            right = subst (λ (trace : Trace). AreRight c.args.extent circuit trace lines (c.loop-place.place + 1)) (sym w.trace-is)
                (one_right c.args.extent circuit c.known.ensures c.loop-place.trace w.take_line.new.trace lines c.loop-place.place w.in-Some.of line
                (sym w.in-Some.ensures) cut.first taken c.loop-place.invariant.right);
            cut = cut.others ∙ ap (λ rest. lines_of rest.now) (sym w.rest-is);
          }
    ]

pub overflow_add-result-in-Some-next_line-2 : goal.overflow_add-result-in-Some-next_line-2
overflow_add-result-in-Some-next_line-2 c =
    let few = length_few c.args.c.now.instances c.known.ensures.few in
    let long = order_long c.args.c.now.nets c.args.c.now.order c.known.ensures.by_name in
    let count = line_count_is c.args.c.now in
    omega (arith, few, long, count, c.known.ensures.few_nets, c.line_count.ensures)

pub returns-in-None-next_line-2 : goal.returns-in-None-next_line-2
returns-in-None-next_line-2 c =
    let circuit = c.args.c.now in
    let lines = lines_of c.args.lines.now in
    let trace = c.loop-place.trace in
    let count = c.line_count-place-end.ensures in
    let last : c.loop-place.place ≡ length (line_order circuit) = omega (arith, count, c.loop-place-test.false, c.loop-place.auto.place-end) in
    let short = none_left lines c.loop-place.place (c.loop-place.invariant.cut ∙ c.in-None-next_line-2.ensures) in
    is_read c.args.extent circuit c.known.ensures trace lines (omega (arith, short, last)) c.loop-place.invariant.long
    (subst (AreRight c.args.extent circuit trace lines) last c.loop-place.invariant.right)

pub returns-in-Some-next_line-2 : goal.returns-in-Some-next_line-2
returns-in-Some-next_line-2 c =
    let circuit = c.args.c.now in
    let lines = lines_of c.args.lines.now in
    let trace = c.loop-place.trace in
    let count = c.line_count-place-end.ensures in
    let last : c.loop-place.place ≡ length (line_order circuit) = omega (arith, count, c.loop-place-test.false, c.loop-place.auto.place-end) in
    let line = c.in-Some-next_line-2.field-0.0.now in
    let after = c.in-Some-next_line-2.field-0.1.now in
    let cut =
    rest_cut lines (lines_of after) c.loop-place.place line
    (c.loop-place.invariant.cut ∙ first_cut c.loop-place.rest.now line after c.in-Some-next_line-2.ensures) in
    subst (λ (n : ℕ). IsWrongLine c.args.extent circuit lines (n + 1)) (sym c.line_count.ensures)
    (is_too_long c.args.extent circuit trace lines line (ap (λ (n : ℕ). slice_get lines n) (sym last) ∙ cut.first)
    (subst (AreRight c.args.extent circuit trace lines) last c.loop-place.invariant.right))
