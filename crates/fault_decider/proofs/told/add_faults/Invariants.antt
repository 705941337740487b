use Rattle.std.proofs.Common.{take}
use Rattle.fault_decider.specs.Reporting.{AreTold}
use Rattle.fault_decider.proofs.told.add_faults.Given as goal

abbrev pub invariant-loop-fault : goal.invariant-loop-fault
invariant-loop-fault l =
    AreTold l.c l.values l.tick (take l.fault-index l.faults) l.fn.answer l.answer
