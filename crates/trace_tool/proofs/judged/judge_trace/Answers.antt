use Rattle.std.proofs.Common.{List, ◌++◌, ℕ, ap, refl, subst, sym, ◌∙◌}
use Rattle.std.specs.Prelude.{MatchOption, length}
use Rattle.trace_sim.specs.declared.choice.Choice.{Choice}
use Rattle.trace_sim.specs.Choice.{AreTraces, Bits, choices_of}
use Rattle.trace_sim.specs.Failure.{EachObeys, FailsFirst}
use Rattle.trace_sim.specs.Simulated.{run_of}
use Rattle.trace_sim.proofs.Failing.{is_run}
use Rattle.trace_tool.proofs.Picks.{trace_picks}
use Rattle.trace_tool.specs.Judged.{not_a_run_line, run_in}
use Rattle.trace_tool.proofs.Judging.{no_run_reply}
use Rattle.trace_tool.proofs.judged.judge_trace.Goals as goal

pub first_failure-requires : goal.first_failure-requires
first_failure-requires c =
    trace_picks c.args.trial.extent c.args.c.now c.args.trace (record { delays = c.args.trace.delays; wires = c.args.trace.wires; inputs = c.new.result; free = c.new-2.result })
    refl refl c.requires

pub returns-in-Some : goal.returns-in-Some
returns-in-Some c =
    let circuit = c.args.c.now in
    let trace = c.args.trace in
    let choices = choices_of (record { delays = trace.delays; wires = trace.wires; inputs = c.new.result; free = c.new-2.result }) in
    let run = run_of trace.ticks choices c.as_slice-bits.result.now in
    no_run_reply circuit (run_in trace) c.args.trial.from c.in-Some.tick c.in-Some.net c.whole.result
    (subst (λ (bits : Bits). FailsFirst circuit (run_of trace.ticks choices bits) c.in-Some.tick c.in-Some.net) c.as_slice-bits.ensures
    (subst (λ o. MatchOption o (EachObeys circuit run) (λ f. FailsFirst circuit run f.0 f.1)) c.in-Some.is c.in_ok-tick.ensures))
    (c.whole.ensures ∙ c.in_ok-add_no_run-in-Some.ensures
    ∙ ap (λ (l : List ℕ). l ++ not_a_run_line circuit c.in-Some.tick c.in-Some.net) c.new-bytes.ensures)

pub judge_run-requires-clause-is_run : goal.judge_run-requires-clause-is_run
judge_run-requires-clause-is_run c =
    let circuit = c.args.c.now in
    let trace = c.args.trace in
    let choice : Choice = record { delays = trace.delays; wires = trace.wires; inputs = c.new.result; free = c.new-2.result } in
    let run = run_of trace.ticks (choices_of choice) c.as_slice-bits.result.now in
    is_run circuit choice trace.ticks c.as_slice-bits.result.now c.known.ensures (trace_picks c.args.trial.extent circuit trace choice refl refl c.requires)
    (subst (λ (bits : Bits). AreTraces (length circuit.nets) trace.ticks bits) (sym c.as_slice-bits.ensures) c.requires.bits)
    (subst (λ o. MatchOption o (EachObeys circuit run) (λ f. FailsFirst circuit run f.0 f.1)) c.in-None.is c.in_ok-tick.ensures)
