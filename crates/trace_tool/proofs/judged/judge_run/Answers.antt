use Rattle.std.proofs.Common.{◌∙◌}
use Rattle.trace_sim.specs.Choice.{choices_of}
use Rattle.trace_sim.specs.Simulated.{run_of}
use Rattle.trace_tool.specs.Judged.{break_line, inputs_line, run_line}
use Rattle.trace_tool.proofs.Judging.{break_of, of_run_reply, stray_of, three_parts}
use Rattle.trace_tool.proofs.judged.judge_run.Goals as goal

pub returns : goal.returns
returns c =
    let circuit = c.args.c.now in
    let choices = choices_of c.args.choice.now in
    let run = run_of c.args.ticks choices c.args.bits.now in
    let stray = c.first_stray-stray.result in
    let found = c.in_ok-found.found in
    of_run_reply circuit run c.args.from stray found c.outcome_of.result c.whole.result c.requires.is_run
    (stray_of circuit run stray (c.first_stray-stray.ensures choices)) (break_of circuit run c.args.from found c.in_ok-found.ensures) c.outcome_of.ensures
    (c.whole.ensures ∙ three_parts c.new-bytes.result c.add_run.new.out c.add_inputs.new.out c.add_break.new.out run_line (inputs_line circuit stray) (break_line circuit found)
    c.in_ok-add_break.ensures c.in_ok-add_inputs.ensures c.in_ok-add_run.ensures c.new-bytes.ensures)
