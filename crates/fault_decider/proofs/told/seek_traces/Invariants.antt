use Rattle.std.proofs.Common.{take}
use Rattle.fault_decider.specs.Reporting.{AreSought}
use Rattle.fault_decider.proofs.told.seek_traces.Given as goal

abbrev pub invariant-loop-fault : goal.invariant-loop-fault
invariant-loop-fault l =
    AreSought l.c l.values l.tick (take l.fault-index l.faults) l.wanted l.fn.answer l.answer
