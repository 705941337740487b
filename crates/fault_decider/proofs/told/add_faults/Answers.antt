use Rattle.std.proofs.Common.{List, arith, subst, sym, take}
use Rattle.std.proofs.lemmas.List.{take_all, take_more}
use Rattle.flat_circuit.specs.declared.fault.Fault.{Fault}
use Rattle.fault_decider.specs.Reporting.{AreTold}
use Rattle.fault_decider.proofs.Telling.{told_none}
use Rattle.fault_decider.proofs.told.add_faults.Goals as goal

pub loop-fault-init : goal.loop-fault-init
loop-fault-init c = told_none c.args.c.now c.args.values.now c.args.tick c.args.answer.now

pub loop-fault-preserved : goal.loop-fault-preserved
loop-fault-preserved c =
    let i = c.loop-fault.fault-index in
    let faults = c.args.faults.now in
    let inside = c.loop-fault-test.true in
    subst
    (λ (fs : List Fault).
    AreTold c.args.c.now c.args.values.now c.args.tick fs c.args.answer.now c.add_fault.new.answer)
    (sym (take_more faults i _ (omega (arith, inside))))
    (c.in_ok-add_fault.ensures c.args.answer.now (take i faults) c.loop-fault.invariant)

pub returns : goal.returns
returns c =
    subst
    (λ (fs : List Fault).
    AreTold c.args.c.now c.args.values.now c.args.tick fs c.args.answer.now c.loop-fault.answer)
    (take_all c.loop-fault.fault-index c.args.faults.now (omega (arith, c.loop-fault-test.false)))
    c.loop-fault.invariant
