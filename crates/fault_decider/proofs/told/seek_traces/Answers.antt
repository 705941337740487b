use Rattle.std.proofs.Common.{List, arith, subst, sym, take}
use Rattle.std.proofs.lemmas.List.{take_all, take_more}
use Rattle.flat_circuit.specs.declared.fault.Fault.{Fault}
use Rattle.fault_decider.specs.Reporting.{AreSought}
use Rattle.fault_decider.proofs.Seeking.{sought_none}
use Rattle.fault_decider.proofs.told.seek_traces.Goals as goal

pub loop-fault-init : goal.loop-fault-init
loop-fault-init c =
    sought_none c.args.c.now c.args.values.now c.args.tick c.args.wanted c.args.answer.now

pub loop-fault-preserved : goal.loop-fault-preserved
loop-fault-preserved c =
    let i = c.loop-fault.fault-index in
    let faults = c.args.faults.now in
    let inside = c.loop-fault-test.true in
    subst
    (λ (fs : List Fault).
    AreSought c.args.c.now c.args.values.now c.args.tick fs c.args.wanted c.args.answer.now c.seek_trace.new.answer)
    (sym (take_more faults i _ (omega (arith, inside))))
    (c.in_ok-seek_trace.ensures c.args.answer.now (take i faults) c.loop-fault.invariant)

pub returns : goal.returns
returns c =
    subst
    (λ (fs : List Fault).
    AreSought c.args.c.now c.args.values.now c.args.tick fs c.args.wanted c.args.answer.now
    c.loop-fault.answer)
    (take_all c.loop-fault.fault-index c.args.faults.now (omega (arith, c.loop-fault-test.false)))
    c.loop-fault.invariant
