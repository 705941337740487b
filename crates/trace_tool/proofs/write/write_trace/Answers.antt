use Rattle.std.proofs.Common.{◌∙◌, arith, sym}
use Rattle.scald_base.proofs.Device.{at_err}
use Rattle.trace_tool.proofs.Written.{all_added, line_added, line_stopped, no_line_added}
use Rattle.trace_tool.proofs.write.write_trace.Goals as goal
use Rattle.trace_tool.proofs.write.write_trace.Goals.{in-None, in-Some+in_ok-add_ended-in-Some}

pub returns-in_err-add_ended-in-Some-clause-err : goal.returns-in_err-add_ended-in-Some-clause-err
returns-in_err-add_ended-in-Some-clause-err c =
    at_err c.from_residual.result
    (line_stopped c.args.c.now c.args.trace.now c.loop-place.place c.args.out.now c.loop-place.out c.add_ended.new.out c.in-Some.line
    (sym c.in-Some.ensures) c.loop-place.invariant c.in_err-add_ended-in-Some.ensures.err)

pub loop-place-preserved : goal.loop-place-preserved
loop-place-preserved c =
    elim c.match-line_at.branch [
      | in-None w ↦ no_line_added c.args.c.now c.args.trace.now c.loop-place.place c.args.out.now c.match-line_at.out
          (let count = c.line_count-place-end.ensures in omega (arith, c.loop-place-test.true)) (sym w.in-None.ensures)
      | in-Some+in_ok-add_ended-in-Some w ↦
          line_added c.args.c.now c.args.trace.now c.loop-place.place c.args.out.now c.loop-place.out c.match-line_at.out w.in-Some.line
          (sym w.in-Some.ensures) c.loop-place.invariant (w.out-is ∙ w.in_ok-add_ended-in-Some.ensures.ok)
    ]

pub returns-clause-ok : goal.returns-clause-ok
returns-clause-ok c =
    all_added c.args.c.now c.args.trace.now c.loop-place.place c.args.out.now c.loop-place.out
    (let count = c.line_count-place-end.ensures in omega (arith, c.loop-place-test.false)) c.loop-place.invariant
