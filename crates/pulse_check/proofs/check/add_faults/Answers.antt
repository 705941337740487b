use Rattle.std.proofs.Common.{◌≡◌, ◌++◌, OnOk, List, sym, ◌∙◌, subst}
use Rattle.flat_circuit.specs.declared.fault.Fault.{Fault}
use Rattle.fixpoint_engine.specs.Waves.{waves_of}
use Rattle.pulse_check.proofs.Gathered.{instance_kind, none_more, other_more}
use Rattle.pulse_check.proofs.check.add_faults.Goals as goal

pub returns-in_default : goal.returns-in_default
returns-in_default g c = none_more c.args.c.now (waves_of c.args.waves.now) c.args.number c.args.faults.now c.in_default.ensures

pub returns-then-not-checks_pulses : goal.returns-then-not-checks_pulses
returns-then-not-checks_pulses g c =
    other_more c.args.c.now (waves_of c.args.waves.now) c.args.number c.in-Some.instance.now c.args.faults.now c.in-Some.ensures
    (sym c.checks_pulses.ensures ∙ c.if-not-checks_pulses.true)

pub returns-in-Some-faults_before : goal.returns-in-Some-faults_before
returns-in-Some-faults_before g c =
    subst (λ (l : List Fault). OnOk c.append_faults.result (c.append_faults.new.faults ≡ c.args.faults.now ++ l))
    c.in-Some-faults_before.ensures c.append_faults.ensures

pub returns : goal.returns
returns g c =
    subst (λ (l : List Fault). OnOk c.add_checker_faults.result (c.add_checker_faults.new.faults ≡ c.args.faults.now ++ l))
    (instance_kind c.args.c.now (waves_of c.args.waves.now) c.args.number c.in-Some.instance.now c.in-Some.ensures)
    c.add_checker_faults.ensures
