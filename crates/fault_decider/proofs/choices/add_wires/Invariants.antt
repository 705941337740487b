use Rattle.std.proofs.Common.{◌≡◌, ◌++◌, flat_map}
use Rattle.std.specs.List.{range_with_len}
use Rattle.fixpoint_engine.specs.Settled.{marked_in}
use Rattle.fault_decider.specs.Choices.{wires_of_number}
use Rattle.fault_decider.proofs.choices.add_wires.Given as goal

abbrev pub invariant-loop-k : goal.invariant-loop-k
invariant-loop-k l =
    l.out ≡ l.fn.out ++ flat_map (wires_of_number l.c l.trace (marked_in l.cone) l.own) (range_with_len 0 l.k)
