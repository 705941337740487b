use Rattle.std.proofs.Common.{◌∙◌}
use Rattle.std.proofs.lemmas.Result.{on_ok_weaker}
use Rattle.fixpoint_engine.specs.Table.{waves_at}
use Rattle.timing_analysis.specs.Settled.{settled_case}
use Rattle.program_call.proofs.Reporting.{of_more}
use Rattle.fault_decider.proofs.Seeking.{seek_more}
use Rattle.fault_decider.proofs.report.seek_case.Goals as goal

pub returns : goal.returns
returns c =
    let case = c.args.case.now in
    on_ok_weaker c.seek_traces.result
    (λ sought limit base before listed table same is so_far.
    let settled = is.settled in
    let k = settled_case listed case.settled.rounds (waves_at table case.settled.numbers) in
    of_more c.args.c.now limit base before listed _ _ _ _ _ _ _ settled
    (λ cases holds.
    seek_more c.args.c.now base c.args.wanted k c.args.values.now case.tick
    c.as_slice-faults.result.now c.args.answer.now _ cases same settled.printed
    (c.as_slice-faults.ensures ∙ settled.found) holds.passed sought holds.has) so_far)
    c.seek_traces.ensures
