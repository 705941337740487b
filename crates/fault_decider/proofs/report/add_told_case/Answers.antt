use Rattle.std.proofs.Common.{◌≡◌, ◌∙◌, ◌++◌, ℕ, List, ap, refl, sym, subst}
use Rattle.std.proofs.lemmas.Result.{on_ok_weaker}
use Rattle.fixpoint_engine.specs.Table.{waves_at}
use Rattle.fixpoint_engine.specs.Waves.{FitWaves}
use Rattle.listing.specs.Case.{case_line}
use Rattle.timing_analysis.specs.Settled.{settled_case}
use Rattle.program_call.proofs.Reporting.{of_more}
use Rattle.fault_decider.specs.Decided.{head_of_case}
use Rattle.fault_decider.proofs.Telling.{report_more}
use Rattle.fault_decider.proofs.report.add_told_case.Goals as goal

pub add_head-requires : goal.add_head-requires
add_head-requires c =
    let same : c.new-waves.result ≡ waves_at c.args.store.now c.args.case.now.settled.numbers =
    c.new-waves.ensures ∙ ap (λ t. waves_at t c.as_slice.result.now) c.waves.ensures
    ∙ ap (waves_at c.args.store.now) c.as_slice.ensures in
    subst (FitWaves c.args.c.now) (sym same) c.requires.fit

pub returns : goal.returns
returns c =
    let case = c.args.case.now in
    on_ok_weaker c.add_faults.result
    (λ told limit before listed same is so_far.
    let settled = is.settled in
    let k = settled_case listed case.settled.rounds (waves_at c.args.store.now case.settled.numbers) in
    let line : case_line case.number c.args.base case.settled.rounds case.tick ≡ head_of_case c.args.c.now c.args.base k =
    ap (λ (n : ℕ). case_line n c.args.base case.settled.rounds case.tick) settled.numbered
    ∙ ap (λ (t : ℕ). case_line listed.number c.args.base case.settled.rounds t) settled.printed in
    of_more c.args.c.now limit c.args.base before listed _ _ _ _ _ _ _ settled
    (λ cases holds.
    report_more c.args.c.now c.args.base c.args.question.version k c.args.values.now case.tick
    c.as_slice-faults.result.now c.args.answer.now _ _ cases same settled.printed
    (c.as_slice-faults.ensures ∙ settled.found)
    (c.in_ok-add_head.ensures ∙ ap (λ (text : List ℕ). c.args.answer.now.bytes ++ text) line)
    refl told holds) so_far)
    c.add_faults.ensures
