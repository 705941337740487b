use Rattle.std.proofs.Common.{◌≡◌, ◌+◌, ℕ, List, IfOk, ap, subst, ◌∙◌}
use Rattle.flat_circuit.specs.declared.case.CaseValue.{CaseValue}
use Rattle.fixpoint_engine.specs.Table.{waves_at}
use Rattle.fixpoint_engine.specs.Waves.{waves_of}
use Rattle.fixpoint_engine.specs.Reach.{reach}
use Rattle.case_analysis.specs.Case.{PermitCase}
use Rattle.case_analysis.specs.Tick.{tick}
use Rattle.timing_analysis.specs.Promise.{KeepsFaultless}
use Rattle.timing_analysis.proofs.settled.faults_from.Goals as goal

pub returns-in-Some-clause-keep : goal.returns-in-Some-clause-keep
returns-in-Some-clause-keep g c =
    let same : c.new-waves.result ≡ waves_at c.args.settled_base.now.store c.args.numbers.now =
    c.new-waves.ensures ∙ ap (λ t. waves_at t c.as_slice.result.now) c.waves-table.ensures ∙ ap (waves_at c.args.settled_base.now.store) c.as_slice.ensures in
    subst (λ ws. IfOk c.faults_again.result (λ faults. (values : List CaseValue) (base rounds : ℕ) →
    PermitCase c.args.circuit.now values (base + rounds) (waves_of ws) →
    KeepsFaultless c.args.circuit.now values faults (tick (reach c.args.circuit.now) base rounds))) same c.faults_again.ensures.keep

pub returns-in-None-clause-keep : goal.returns-in-None-clause-keep
returns-in-None-clause-keep g c =
    let same : c.new-waves.result ≡ waves_at c.args.settled_base.now.store c.args.numbers.now =
    c.new-waves.ensures ∙ ap (λ t. waves_at t c.as_slice.result.now) c.waves-table.ensures ∙ ap (waves_at c.args.settled_base.now.store) c.as_slice.ensures in
    subst (λ ws. IfOk c.faults.result (λ faults. (values : List CaseValue) (base rounds : ℕ) →
    PermitCase c.args.circuit.now values (base + rounds) (waves_of ws) →
    KeepsFaultless c.args.circuit.now values faults (tick (reach c.args.circuit.now) base rounds))) same c.faults.ensures.keep
