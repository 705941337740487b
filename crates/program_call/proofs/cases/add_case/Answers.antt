use Rattle.std.proofs.Common.{◌≡◌, ◌∙◌, ap, List, sym, subst}
use Rattle.std.proofs.lemmas.Result.{on_ok_weaker}
use Rattle.step_values.specs.declared.value.Value.{Value}
use Rattle.skew_algebra.specs.Wave.{Wave}
use Rattle.fixpoint_engine.specs.Table.{waves_at}
use Rattle.fixpoint_engine.specs.Waves.{FitWaves}
use Rattle.timing_analysis.specs.Settled.{IsSettledCase}
use Rattle.program_call.proofs.Reporting.{of_more}
use Rattle.program_call.proofs.cases.add_case.Goals as goal

pub add_case-requires-clause-fit : goal.add_case-requires-clause-fit
add_case-requires-clause-fit g c =
    let same : c.new-waves.result ≡ waves_at c.args.store.now c.args.case.now.settled.numbers =
    c.new-waves.ensures ∙ ap (λ t. waves_at t c.as_slice.result.now) c.waves.ensures ∙ ap (waves_at c.args.store.now) c.as_slice.ensures in
    subst (FitWaves c.args.circuit.now) (sym same) c.requires.fit

pub returns-clause-holds : goal.returns-clause-holds
returns-clause-holds g c =
    let case = c.args.case.now in
    let circuit = c.args.circuit.now in
    let same : c.new-waves.result ≡ waves_at c.args.store.now case.settled.numbers =
    c.new-waves.ensures ∙ ap (λ t. waves_at t c.as_slice.result.now) c.waves.ensures ∙ ap (waves_at c.args.store.now) c.as_slice.ensures in
    on_ok_weaker c.add_case.result
    (λ more asked kept limit base before listed is so_far.
    let settled : IsSettledCase circuit limit base listed case.number case.settled.rounds case.tick c.new-waves.result case.faults =
    subst (λ (ws : List (Wave Value)). IsSettledCase circuit limit base listed case.number
    case.settled.rounds case.tick ws case.faults)
    (sym same) is.settled in
    of_more circuit limit base before listed _ _ case.number case.settled.rounds case.tick
    c.new-waves.result case.faults settled
    (λ cases holds. more asked kept limit base listed cases settled holds) so_far)
    c.add_case.ensures.holds
